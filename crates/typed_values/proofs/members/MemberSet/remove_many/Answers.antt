use Rattle.std.proofs.Common.{ℕ, ◌≤◌, List, length, sym, subst, arith}
use Rattle.typed_values.proofs.Limits.{short-members_without, length-members_without}
use Rattle.typed_values.specs.Members.{members_of, AreShortMembers}
use Rattle.typed_values.proofs.members.MemberSet.remove_many.Goals as goal

pub invariant_of-self : goal.invariant_of-self
invariant_of-self c =
    let P : List (List ℕ) → Type 0 = λ ms. (length ms ≤ 1048576) × AreShortMembers ms in
    let old = members_of c.self.inside.set.keys in
    let less = length-members_without old c.into_vec.result.items in
    subst P (sym c.remove_named.ensures) (omega arith, short-members_without old c.into_vec.result.items c.self.invariant.1)
