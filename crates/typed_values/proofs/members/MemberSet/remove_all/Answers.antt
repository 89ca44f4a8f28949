use Rattle.std.proofs.Common.{ℕ, ◌≤◌, List, length, ap, sym, subst, arith}
use Rattle.typed_values.proofs.Limits.{short-members_without, length-members_without}
use Rattle.typed_values.specs.Members.{members_of, AreShortMembers}
use Rattle.typed_values.proofs.members.MemberSet.remove_all.Goals as goal

pub overflow_sub-result : goal.overflow_sub-result
overflow_sub-result c =
    let less = length-members_without (members_of c.self.inside.set.keys) c.get.result.now in
    omega (arith, c.len-before.ensures.count, ap length c.self.view_is, c.len.ensures.count, ap length c.remove_each.ensures, less)

pub invariant_of-self : goal.invariant_of-self
invariant_of-self c =
    let P : List (List ℕ) → Type 0 = λ ms. (length ms ≤ 1048576) × AreShortMembers ms in
    let old = members_of c.self.inside.set.keys in
    let less = length-members_without old c.get.result.now in
    subst P (sym c.remove_each.ensures) (omega arith, short-members_without old c.get.result.now c.self.invariant.1)
