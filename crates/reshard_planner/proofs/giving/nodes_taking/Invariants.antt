use Rattle.std.proofs.Common.{◌≡◌, slice_index}
use Rattle.reshard_planner.specs.Transfers.{nodes_taking}
use Rattle.reshard_planner.proofs.giving.nodes_taking.Given as goal

abbrev pub invariant-loop-node : goal.invariant-loop-node
invariant-loop-node l = l.targets.items ≡ nodes_taking (λ node. slice_index l.takes node) l.node
