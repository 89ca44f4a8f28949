use Rattle.std.proofs.Common.{ℕ, ◌≤◌, List, length, sym, subst, ◌∙◌}
use Rattle.std.specs.List.{each_same}
use Rattle.typed_values.specs.Members.{AreShortMembers}
use Rattle.typed_values.proofs.MembersSeen.{members_of-copies}
use Rattle.typed_values.proofs.members.MemberSet.try_copy.Goals as goal

pub invariant_of-result : goal.invariant_of-result
invariant_of-result c =
    let P : List (List ℕ) → Type 0 = λ ms. (length ms ≤ 1048576) × AreShortMembers ms in
    subst P (sym (members_of-copies _ (λ x y h. each_same _ _ h.0) _ _ c.in_ok-clone.ensures.cases)) c.self.invariant

pub returns : goal.returns
returns c = members_of-copies _ (λ x y h. each_same _ _ h.0) _ _ c.in_ok-clone.ensures.cases ∙ c.self.view_is
