use Rattle.std.proofs.Common.{◌≡◌, ℕ, List, length}
use Rattle.reshard_planner.specs.Holding.{held}
use Rattle.reshard_planner.specs.Quotas.{node_weight}
use Rattle.reshard_planner.specs.Starts.{Lists}
use Rattle.reshard_planner.proofs.rebalancing.node_weights.Given as goal

abbrev pub invariant-loop-node : goal.invariant-loop-node
invariant-loop-node l = ((owners : List ℕ) → Lists (held owners) 255 l.held
    → Lists (node_weight owners l.weights l.use_empty) l.node l.node_weights) × (length l.node_weights ≡ 255)
