use Rattle.std.proofs.Common.{◌+◌, ◌∙◌, sym, ap, arith, slice_index}
use Rattle.reshard_planner.proofs.Sums.{sum_more, sum_zero}
use Rattle.reshard_planner.proofs.shares.sum_over.Goals as goal

pub loop-node-init : goal.loop-node-init
loop-node-init c = (sym (sum_zero _), (omega arith))

pub loop-node-preserved : goal.loop-node-preserved
loop-node-preserved c = (
  ap (λ x. x + slice_index c.args.numbers.now c.loop-node.node) c.loop-node.invariant.0 ∙ sym (sum_more _ c.loop-node.node),
  (let l = c.requires.small c.loop-node.node (omega (arith, c.from-node-end.ensures)) in omega (arith, c.loop-node.invariant.1)),
)
