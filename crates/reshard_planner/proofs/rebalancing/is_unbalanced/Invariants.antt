use Rattle.std.proofs.Common.{◌≡◌, slice_index}
use Rattle.reshard_planner.specs.Quotas.{is_unbalanced}
use Rattle.reshard_planner.proofs.rebalancing.is_unbalanced.Given as goal

abbrev pub invariant-loop-node : goal.invariant-loop-node
invariant-loop-node l = l.found
    ≡ is_unbalanced l.threshold (λ node. slice_index l.held node) (λ node. slice_index l.quotas node) l.node
