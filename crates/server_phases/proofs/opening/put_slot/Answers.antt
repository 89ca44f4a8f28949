use Rattle.std.proofs.Common.{◌≡◌, ◌+◌, ◌<◌, ◌≤◌, drop, length, ◌∙◌, arith, subst, sym}
use Rattle.std.proofs.lemmas.List.{length-set}
use Rattle.slot_marks.specs.Tables.{Table}
use Rattle.cluster_admin.specs.Surveys.{table_at}
use Rattle.server_phases.specs.Opened.{AreTablesBelow, with_marks, with_told}
use Rattle.server_phases.proofs.Tables.{at_any, front, known_ordinary, marks_put, only_that, owner_put, put_last}
use Rattle.server_phases.proofs.Tables.{put_next}
use Rattle.server_phases.proofs.opening.put_slot.Goals as goal

pub loop-table-preserved : goal.loop-table-preserved
loop-table-preserved c =
    let v = c.args.survey.now in
    let s = c.args.slot in
    let p = c.phase_at-phase.result in
    let i = c.loop-table.table-index in
    let ts = c.loop-table.table-items in
    let many = c.loop-table.invariant.many in
    let there : i < length ts = subst (λ n. i < n) (sym c.loop-table.invariant.kept) c.loop-table-test.true in
    let before = c.loop-table.invariant.put.left i there (omega arith) in
    let is = known_ordinary v s p (c.requires.ordinary s (omega arith)) c.phase_at-phase.ensures.only in
    let only = only_that v s p c.phase_at-phase.ensures.only in
    let owned = owner_put v i s (table_at ts i) p before (omega arith) (subst (λ n. i < n) many there) is only in
    record {
      kept = length-set ts i c.put_phase.new.table ∙ c.loop-table.invariant.kept;
      many = length-set ts i c.put_phase.new.table ∙ many;
      put = put_next v s i ts c.put_phase.new.table c.loop-table.invariant.put there
          (marks_put v i s (with_told (table_at ts i) s p) c.put_phase.new.table p owned only
          (subst (λ (x : Table). c.put_phase.new.table ≡ with_marks (with_told x s p) s p) (at_any ts i c.table-item.result there)
          c.put_phase.ensures.put) c.put_phase.ensures.width c.put_phase.ensures.named);
    }

pub returns-clause-below : goal.returns-clause-below
returns-clause-below c =
    let v = c.args.survey.now in
    let s = c.args.slot in
    let ts = c.loop-table.table-items in
    let many : c.args.tables.now.len ≡ length ts = omega (arith, c.loop-table.invariant.many, c.requires.many) in
    subst (AreTablesBelow v (s + 1)) (sym (front ts (drop (length ts) c.args.tables.now.items) c.args.tables.now.len many))
    (put_last v s c.loop-table.table-index ts c.loop-table.invariant.put
    (subst (λ n. n ≤ c.loop-table.table-index) (sym c.loop-table.invariant.kept) c.loop-table-test.false))
