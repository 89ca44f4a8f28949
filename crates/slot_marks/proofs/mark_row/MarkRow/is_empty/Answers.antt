use Rattle.std.proofs.Common.{◌≡◌, ap, ◌∙◌, ◌↔◌, IsTrue, subst}
use Rattle.std.specs.FinMap.{empty}
use Rattle.std.specs.List.{list_all}
use Rattle.slot_marks.specs.Tables.{Marks}
use Rattle.slot_marks.proofs.Places.{marks-empty, is_blank}
use Rattle.slot_marks.proofs.mark_row.MarkRow.is_empty.Goals as goal

pub returns : goal.returns
returns c =
    let P : Marks → Type 0 = λ m. IsTrue c.are_blank.result ↔ (m ≡ empty) in
    subst P c.self.view_is (marks-empty c.self.inside.places.items c.are_blank.result (c.are_blank.ensures ∙ ap (list_all is_blank) c.as_slice.ensures.value))
