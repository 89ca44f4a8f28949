use Rattle.std.proofs.Common.{◌≡◌, take}
use Rattle.plan_changes.proofs.finals.owners_before.Given as goal

abbrev pub invariant-loop-number : goal.invariant-loop-number
invariant-loop-number l = l.before.items ≡ take l.number l.owners.owners
