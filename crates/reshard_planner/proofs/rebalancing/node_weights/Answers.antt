use Rattle.std.proofs.Common.{◌||◌, ◌∙◌, ap, arith, cond, length-set, nat_lt, slice_index}
use Rattle.reshard_planner.proofs.Walking.{lists_more}
use Rattle.reshard_planner.proofs.rebalancing.node_weights.Goals as goal

pub loop-node-preserved : goal.loop-node-preserved
loop-node-preserved c = (
  λ owners h. lists_more _ _ _ _ (omega (arith, c.loop-node.invariant.1)) (c.loop-node.invariant.0 owners h) (c.weight_of.ensures
      ∙ ap (λ x. cond (c.args.use_empty || nat_lt 0 x) (slice_index c.args.weights.now c.loop-node.node) 0)
      (h c.loop-node.node (omega (arith, c.requires.few)))),
  length-set _ _ _ ∙ c.loop-node.invariant.1,
)
