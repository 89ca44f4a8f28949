use Rattle.std.proofs.Common.{◌≡◌, ◌++◌, replicate}
use Rattle.reshard_planner.proofs.giving.list.Given as goal

abbrev pub invariant-loop : goal.invariant-loop
invariant-loop l = l.targets.items ≡ l.initial.targets.items ++ replicate l.counter l.node
