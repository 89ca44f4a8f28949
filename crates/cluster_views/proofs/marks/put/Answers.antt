use Rattle.std.proofs.Common.{◌≡◌, false, is_some, None, cond, eqb, ap, subst, sym, ◌∙◌, arith}
use Rattle.std.specs.FinMap as finite
use Rattle.std.specs.Option.{option_or}
use Rattle.slot_marks.specs.Rows.{AreOfSlots}
use Rattle.slot_marks.specs.Tables.{Marks}
use Rattle.cluster_views.proofs.Marking.{put_get, put_slots}
use Rattle.cluster_views.proofs.marks.put.Goals as goal

pub returns-in-Some-clause-marks : goal.returns-in-Some-clause-marks
returns-in-Some-clause-marks c s =
    let none : is_some (finite.get c.args.row.now c.args.slot) ≡ false =
    ap is_some (sym c.get.ensures) ∙ c.if-is_none.ensures in
    ap (λ (m : Marks). finite.get m s) c.set.ensures
    ∙ put_get c.args.row.now c.args.slot c.in-Some.node none s
    ∙ ap (λ o. option_or (finite.get c.args.row.now s) (cond (eqb s c.args.slot) o None)) (sym c.in-Some.is)

pub returns-in-Some-clause-slots : goal.returns-in-Some-clause-slots
returns-in-Some-clause-slots c of =
    subst AreOfSlots (sym c.set.ensures)
    (put_slots c.args.row.now c.args.slot c.in-Some.node (omega arith) of)
