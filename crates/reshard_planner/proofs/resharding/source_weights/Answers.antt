use Rattle.std.proofs.Common.{◌∙◌, ap, arith, cond, length-set, slice_index}
use Rattle.plan_semantics.specs.Plans.{among}
use Rattle.reshard_planner.proofs.Steps.{source_more}
use Rattle.reshard_planner.proofs.resharding.source_weights.Goals as goal

pub loop-source-init : goal.loop-source-init
loop-source-init c = (
  λ node l. ap (λ x. cond (among node c.args.sources.now) (slice_index c.args.held.now node) x) (c.nothing-weights.ensures.none node),
  c.nothing-weights.ensures.width,
)

pub loop-source-preserved : goal.loop-source-preserved
loop-source-preserved c = (
  λ node l. source_more c.args.sources.now c.args.held.now c.loop-source.weights c.loop-source.source-index c.source-item.result
      c.from-node.result node _ (omega arith) c.source-item.is (c.from-node.ensures ∙ c.get.ensures.value)
      (omega (arith, c.loop-source.invariant.1, c.from-node.ensures, c.get.ensures.within)) (c.loop-source.invariant.0 node l),
  length-set _ _ _ ∙ c.loop-source.invariant.1,
)
