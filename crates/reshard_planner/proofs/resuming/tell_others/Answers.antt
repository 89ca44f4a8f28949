use Rattle.std.proofs.Common.{◌∙◌, ◌++◌, ap, arith, refl, ◌+◌, sym}
use Rattle.plan_semantics.specs.Plans.{tell}
use Rattle.reshard_planner.specs.Resuming.{lines_for}
use Rattle.plan_language.specs.Lines.{others}
use Rattle.plan_language.specs.MovesLeft.{others_from}
use Rattle.plan_language.proofs.MovesLeft.{others_all, others_none}
use Rattle.reshard_planner.proofs.Rests.{other_step, told_all, told_step}
use Rattle.reshard_planner.proofs.resuming.tell_others.Goals as goal

pub loop-number-init : goal.loop-number-init
loop-number-init c = record {
  version = refl;
  names = refl;
  width = refl;
  few = omega arith;
  lines = ap (λ ms. c.args.plan.now.lines ++ lines_for (tell c.args.slot c.args.target ms))
      (sym (others_all c.args.nodes c.args.source c.args.target));
}

pub loop-number-preserved : goal.loop-number-preserved
loop-number-preserved c = record {
  version = ap (λ p. p.version) c.in_ok-tell_if.ensures.adds ∙ c.loop-number.invariant.version;
  names = ap (λ p. p.names) c.in_ok-tell_if.ensures.adds ∙ c.loop-number.invariant.names;
  width = c.in_ok-tell_if.ensures.width ∙ c.loop-number.invariant.width;
  few = omega (arith, c.in_ok-tell_if.ensures.room, c.loop-number.invariant.few);
  lines = told_step c.args.plan.now c.loop-number.plan c.tell_if.new.plan c.args.slot c.args.target c.of-node.result c.is_other.result
      (others_from c.args.nodes c.args.source c.args.target c.loop-number.number)
      (others_from c.args.nodes c.args.source c.args.target (c.loop-number.number + 1))
      (others c.args.nodes c.args.source c.args.target)
      (other_step c.args.nodes c.args.source c.args.target c.loop-number.number c.of-node.result c.is_other.result c.loop-number-test.true c.of-node.ensures c.is_other.ensures)
      c.in_ok-tell_if.ensures.adds c.loop-number.invariant.lines;
}

pub returns : goal.returns
returns c =
    told_all c.args.plan.now c.loop-number.plan c.args.slot c.args.target
    (others_from c.args.nodes c.args.source c.args.target c.loop-number.number) (others c.args.nodes c.args.source c.args.target)
    c.loop-number.invariant.version c.loop-number.invariant.names (others_none c.args.nodes c.args.source c.args.target c.loop-number.number c.loop-number-test.false)
    c.loop-number.invariant.lines
