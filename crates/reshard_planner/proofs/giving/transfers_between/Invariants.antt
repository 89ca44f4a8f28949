use Rattle.std.proofs.Common.{◌≡◌, ◌++◌, drop}
use Rattle.reshard_planner.specs.Transfers.{transfers_between}
use Rattle.reshard_planner.proofs.giving.transfers_between.Given as goal

abbrev pub invariant-loop-place : goal.invariant-loop-place
invariant-loop-place l = l.transfers.items ++ transfers_between (drop l.place l.slots_given) (drop l.place l.targets) ≡ transfers_between l.slots_given l.targets
