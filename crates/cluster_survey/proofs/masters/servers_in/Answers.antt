use Rattle.std.proofs.Common.{◌≡◌, ◌+◌, Vec, Global, eqb-true, length, subst, sym, ap, ◌∙◌, arith}
use Rattle.std.proofs.lemmas.Result.{err_from_is_err_and}
use Rattle.server_commands.specs.declared.book.Server.{Server}
use Rattle.cluster_survey.proofs.Placing.{Placed, none_masters, none_placed, one_not_added, one_placed}
use Rattle.cluster_survey.proofs.Placing.{other_placed}
use Rattle.cluster_survey.proofs.masters.servers_in.Goals as goal
use Rattle.cluster_survey.proofs.masters.servers_in.Goals.{then-is_present+in_ok-add_master, else-is_present}

pub loop-index-init : goal.loop-index-init
loop-index-init c = none_placed c.args.lines.now c.new-servers.result.items c.new-servers.ensures.items

pub loop-index-preserved : goal.loop-index-preserved
loop-index-preserved c =
    let P = λ (v : Vec Server Global). Placed c.args.lines.now (c.loop-index.index + 1) v.items in
    elim c.if-is_present.branch [
      | then-is_present+in_ok-add_master w ↦ subst P (sym w.servers-is)
          (one_placed c.args.lines.now c.loop-index.index c.index-lines-index.result c.loop-index.servers.items
          w.add_master.new.servers.items (omega arith) c.index-lines-index.is (sym w.if-is_present.ensures) c.loop-index.invariant
          w.in_ok-add_master.ensures)
      | else-is_present w ↦ subst P (sym w.servers-is)
          (other_placed c.args.lines.now c.loop-index.index c.index-lines-index.result c.loop-index.servers.items
          (omega arith) c.index-lines-index.is (sym w.if-is_present.ensures) c.loop-index.invariant)
    ]

pub returns-in_err-add_master-clause-masters : goal.returns-in_err-add_master-clause-masters
returns-in_err-add_master-clause-masters c =
    let p = err_from_is_err_and c.from_residual.result c.from_residual.ensures.1 in
    rw (p.1, p.2) (one_not_added c.args.lines.now c.loop-index.index c.index-lines-index.result c.loop-index.servers.items
    c.in_err-add_master.field-0.0 (omega arith) c.index-lines-index.is (sym c.if-is_present.ensures) c.loop-index.invariant.all
    c.in_err-add_master.ensures)

pub returns-then-is_empty-clause-masters : goal.returns-then-is_empty-clause-masters
returns-then-is_empty-clause-masters c =
    let zero : length c.as_slice.result.now ≡ 0 =
    eqb-true (length c.as_slice.result.now) 0 (sym c.if-is_empty.ensures) in
    none_masters c.args.lines.now c.loop-index.index c.loop-index.servers.items (omega arith) c.loop-index.invariant.all
    (ap length (sym c.as_slice.ensures.value) ∙ zero)
