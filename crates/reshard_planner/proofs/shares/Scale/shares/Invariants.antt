use Rattle.std.proofs.Common.{◌≡◌, length, slice_index}
use Rattle.reshard_planner.specs.Sums.{sum_below}
use Rattle.reshard_planner.specs.Shares.{share}
use Rattle.reshard_planner.specs.Starts.{Lists}
use Rattle.reshard_planner.proofs.shares.Scale.shares.Given as goal

abbrev pub invariant-loop-node : goal.invariant-loop-node
invariant-loop-node l =
    (l.before ≡ sum_below (λ node. slice_index l.weights node) l.node)
    × Lists (share l.self.total l.self.half (λ node. slice_index l.weights node) l.nodes) l.node l.shares
    × (length l.shares ≡ 255)
