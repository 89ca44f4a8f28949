use Rattle.std.proofs.Common.{◌∙◌, arith, length-set}
use Rattle.reshard_planner.proofs.Walking.{lists_more}
use Rattle.reshard_planner.proofs.rebalancing.excess.Goals as goal

pub loop-node-preserved : goal.loop-node-preserved
loop-node-preserved c = (
  lists_more _ _ _ _ (omega (arith, c.loop-node.invariant.1)) c.loop-node.invariant.0 (c.saturating_sub.ensures),
  length-set _ _ _ ∙ c.loop-node.invariant.1,
)
