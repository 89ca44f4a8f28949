use Rattle.std.proofs.Common.{◌≡◌, ◌+◌, ◌≤◌, [], length, take}
use Rattle.typed_values.specs.Members.{members_with}
use Rattle.typed_values.proofs.members.MemberSet.added_by_many.Given as goal

abbrev pub invariant-loop-place : goal.invariant-loop-place
invariant-loop-place l = (l.count + length l.self ≡ length (members_with l.self (take l.place l.texts))) × (l.count ≤ l.place) × (l.seen ≡ members_with [] (take l.place l.texts))
