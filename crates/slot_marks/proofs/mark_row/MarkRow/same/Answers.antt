use Rattle.std.proofs.Common.{◌∙◌, sym}
use Rattle.slot_marks.proofs.Places.{rows_same}
use Rattle.slot_marks.proofs.mark_row.MarkRow.same.Goals as goal

pub returns : goal.returns
returns c =
    rw (← c.self.view_is, ← c.other.view_is)
    (rows_same c.self.inside.places.items c.other.inside.places.items c.eq.result (c.self.invariant ∙ sym c.other.invariant) c.eq.ensures)
