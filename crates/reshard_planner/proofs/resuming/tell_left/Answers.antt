use Rattle.std.proofs.Common.{◌∙◌, ap, arith, ◌+◌, ◌<◌, ◌≤◌, sym, subst}
use Rattle.plan_semantics.specs.Plans.{tell}
use Rattle.reshard_planner.specs.Resuming.{Adds}
use Rattle.reshard_planner.proofs.Rests.{left_step, saying_all, saying_from, saying_none, told_all, told_step}
use Rattle.reshard_planner.proofs.resuming.tell_left.Goals as goal

pub loop-number-preserved : goal.loop-number-preserved
loop-number-preserved c = record {
  version = ap (λ p. p.version) c.in_ok-tell_if.ensures.adds ∙ c.loop-number.invariant.version;
  names = ap (λ p. p.names) c.in_ok-tell_if.ensures.adds ∙ c.loop-number.invariant.names;
  width = c.in_ok-tell_if.ensures.width ∙ c.loop-number.invariant.width;
  few = omega (arith, c.in_ok-tell_if.ensures.room, c.loop-number.invariant.few);
  lines = told_step c.args.plan.now c.loop-number.plan c.tell_if.new.plan c.args.slot c.args.target c.of-node.result c.eq.result
      (saying_from c.args.survey.now c.args.slot c.args.source c.loop-number.number)
      (saying_from c.args.survey.now c.args.slot c.args.source (c.loop-number.number + 1))
      (saying_from c.args.survey.now c.args.slot c.args.source 0)
      (left_step c.args.survey.now c.args.slot c.args.source c.loop-number.number c.of-node.result c.owner.result c.eq.result
      (subst (λ n. c.loop-number.number < n) c.nodes-number-end.ensures.value c.loop-number-test.true) c.of-node.ensures c.owner.ensures.value c.eq.ensures)
      c.in_ok-tell_if.ensures.adds c.loop-number.invariant.lines;
}

pub returns : goal.returns
returns c =
    subst (λ ms. Adds c.args.plan.now c.loop-number.plan (tell c.args.slot c.args.target ms)) (sym (saying_all c.args.survey.now c.args.slot c.args.source))
    (told_all c.args.plan.now c.loop-number.plan c.args.slot c.args.target
    (saying_from c.args.survey.now c.args.slot c.args.source c.loop-number.number) (saying_from c.args.survey.now c.args.slot c.args.source 0)
    c.loop-number.invariant.version c.loop-number.invariant.names (saying_none c.args.survey.now c.args.slot c.args.source c.loop-number.number
    (subst (λ n. n ≤ c.loop-number.number) c.nodes-number-end.ensures.value c.loop-number-test.false))
    c.loop-number.invariant.lines)
