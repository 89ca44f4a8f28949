use Rattle.std.proofs.Common.{rules, ◌∙◌, ◌<◌, arith, length-set, sym}
use Rattle.reshard_planner.proofs.DrainQuotas.{filled_step, none_filled, small_step}
use Rattle.reshard_planner.proofs.Walking.{by_recursion}
use Rattle.reshard_planner.proofs.draining.filled.Goals as goal

pub loop-init : goal.loop-init
loop-init c = record {
  holds = λ h are node l. are node l ∙ sym (none_filled h c.args.target c.args.others.now node);
  small = c.requires.small;
  width = search rules;
}

pub loop-preserved : goal.loop-preserved
loop-preserved c = record {
  holds = λ h are node l. filled_step c.loop.quotas c.from.result c.loop.invariant.width h c.args.target
      c.args.others.now c.loop.counter node c.requires.target
      (by_recursion (λ x. x < 255) c.args.others.now c.requires.others) (c.loop.invariant.holds h are)
      (c.from.ensures ∙ c.get.ensures.value ∙ c.least-node.ensures) l;
  small = λ node l. small_step c.loop.quotas c.from.result c.loop.invariant.width c.loop.counter node
      (omega (arith, c.from.ensures, c.get.ensures.within)) c.loop.invariant.small l;
  width = length-set _ _ _ ∙ c.loop.invariant.width;
}
