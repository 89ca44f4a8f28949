use Rattle.std.proofs.Common.{◌≡◌, ◌≤◌, ◌*◌, slice_index}
use Rattle.reshard_planner.specs.Sums.{sum_below}
use Rattle.reshard_planner.proofs.shares.sum_over.Given as goal

abbrev pub invariant-loop-node : goal.invariant-loop-node
invariant-loop-node l = (l.sum ≡ sum_below (λ node. slice_index l.numbers node) l.node) × (l.sum ≤ 16384 * l.node)
