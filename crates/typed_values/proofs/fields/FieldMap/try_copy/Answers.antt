use Rattle.std.proofs.Common.{◌≤◌, length, sym, subst, ◌∙◌}
use Rattle.std.specs.List.{each_same}
use Rattle.typed_values.specs.Fields.{Fields, AreShortFields}
use Rattle.typed_values.proofs.Views.{seen-copies}
use Rattle.typed_values.proofs.fields.FieldMap.try_copy.Goals as goal

pub invariant_of-result : goal.invariant_of-result
invariant_of-result c =
    let P : Fields → Type 0 = λ es. (length es ≤ 1048576) × AreShortFields es in
    subst P (sym (seen-copies (λ v. v.items) (λ v. v.items) _ _ (λ x y h. each_same _ _ h.0) (λ x y h. each_same _ _ h.0) _ _ c.in_ok-clone.ensures.cases)) c.self.invariant

pub returns : goal.returns
returns c = seen-copies (λ v. v.items) (λ v. v.items) _ _ (λ x y h. each_same _ _ h.0) (λ x y h. each_same _ _ h.0) _ _ c.in_ok-clone.ensures.cases ∙ c.self.view_is
