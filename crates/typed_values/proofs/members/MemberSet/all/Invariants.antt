use Rattle.std.proofs.Common.{◌≡◌, take}
use Rattle.typed_values.proofs.members.MemberSet.all.Given as goal

abbrev pub invariant-loop-place : goal.invariant-loop-place
invariant-loop-place l = l.copies.items ≡ take l.place l.self
