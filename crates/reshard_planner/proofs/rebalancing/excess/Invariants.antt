use Rattle.std.proofs.Common.{◌≡◌, ◌-◌, length, slice_index}
use Rattle.reshard_planner.specs.Starts.{Lists}
use Rattle.reshard_planner.proofs.rebalancing.excess.Given as goal

abbrev pub invariant-loop-node : goal.invariant-loop-node
invariant-loop-node l = Lists (λ node. slice_index l.numbers node - slice_index l.others node) l.node l.excess
    × (length l.excess ≡ 255)
