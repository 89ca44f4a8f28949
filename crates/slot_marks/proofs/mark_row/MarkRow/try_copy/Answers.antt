use Rattle.std.proofs.Common.{◌≤◌, subst, sym}
use Rattle.slot_marks.specs.Rows.{AreOfSlots}
use Rattle.slot_marks.proofs.Places.{marks_end}
use Rattle.slot_marks.proofs.mark_row.MarkRow.try_copy.Goals as goal

pub returns-in_err-places-clause-slots : goal.returns-in_err-places-clause-slots
returns-in_err-places-clause-slots c =
    subst AreOfSlots c.self.view_is (λ s h. marks_end c.self.inside.places.items s (subst (λ l. l ≤ s) (sym c.self.invariant) h))

pub returns-clause-slots : goal.returns-clause-slots
returns-clause-slots c =
    subst AreOfSlots c.self.view_is (λ s h. marks_end c.self.inside.places.items s (subst (λ l. l ≤ s) (sym c.self.invariant) h))
