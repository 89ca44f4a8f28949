use Rattle.std.proofs.Common.{◌≡◌, ◌+◌, ◌≤◌, length, ap, arith, sym, subst}
use Rattle.server_phases.specs.Opened.{AreTablesBelow, IsOpened}
use Rattle.server_phases.proofs.Tables.{are_tables, opened}
use Rattle.server_phases.proofs.opening.survey_of_phases.Goals as goal

pub loop-number-init : goal.loop-number-init
loop-number-init c = record { many = c.in_ok-tables.ensures.told.0; below = c.in_ok-tables.ensures.told.1 }

pub put_slot-requires-clause-below : goal.put_slot-requires-clause-below
put_slot-requires-clause-below c =
    subst (λ k. AreTablesBelow c.args.survey.now k c.loop-number.tables.items) (sym c.of-slot.ensures)
    c.loop-number.invariant.below

pub loop-number-preserved : goal.loop-number-preserved
loop-number-preserved c = record {
  many = c.put_slot.ensures.many;
  below =
      subst (λ k. AreTablesBelow c.args.survey.now (k + 1) c.put_slot.new.tables.items) c.of-slot.ensures
      c.put_slot.ensures.below;
}

pub of-requires : goal.of-requires
of-requires c =
    let v = c.args.survey.now in
    let ts = c.loop-number.tables.items in
    let told = c.in_ok-tables.ensures in
    are_tables v ts (subst (λ k. AreTablesBelow v k ts) (omega arith) c.loop-number.invariant.below)
    c.loop-number.invariant.many (subst (λ n. 1 ≤ n) told.told.0 told.few.0) (subst (λ n. n ≤ 255) told.told.0 told.few.1)

pub returns : goal.returns
returns c =
    let v = c.args.survey.now in
    let ts = c.loop-number.tables.items in
    let told = c.in_ok-tables.ensures in
    let below : AreTablesBelow v 16384 ts = subst (λ k. AreTablesBelow v k ts) (omega arith) c.loop-number.invariant.below in
    subst (IsOpened v) (sym c.of.ensures) (opened v ts below c.loop-number.invariant.many
    (are_tables v ts below c.loop-number.invariant.many (subst (λ n. 1 ≤ n) told.told.0 told.few.0)
    (subst (λ n. n ≤ 255) told.told.0 told.few.1)) c.requires)
