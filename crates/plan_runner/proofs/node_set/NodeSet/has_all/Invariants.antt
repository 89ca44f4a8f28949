use Rattle.std.proofs.Common.{◌≡◌}
use Rattle.plan_runner.specs.SlotStates.{all_told}
use Rattle.plan_runner.proofs.node_set.NodeSet.has_all.Given as goal

abbrev pub invariant-loop-node : goal.invariant-loop-node
invariant-loop-node g l = l.all ≡ all_told l.node l.fn.self
