use Rattle.std.proofs.Common.{◌≡◌, ◌+◌, ◌≤◌, [], length, take}
use Rattle.typed_values.specs.Members.{members_with, members_without}
use Rattle.typed_values.proofs.members.MemberSet.removed_by_many.Given as goal

abbrev pub invariant-loop-place : goal.invariant-loop-place
invariant-loop-place l = (l.count + length (members_without l.self (take l.place l.texts)) ≡ length l.self) × (l.count ≤ l.place) × (l.seen ≡ members_with [] (take l.place l.texts))
