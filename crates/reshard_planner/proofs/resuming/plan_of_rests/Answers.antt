use Rattle.std.proofs.Common.{◌∙◌, ◌≤◌, ap, arith, sym, subst}
use Rattle.plan_language.specs.Limits.{limits_of}
use Rattle.plan_language.specs.Lines.{plan_commands}
use Rattle.plan_semantics.specs.Plans.{Legal}
use Rattle.plan_semantics.specs.Surveyed.{node_count}
use Rattle.reshard_planner.specs.Blank.{names_for}
use Rattle.reshard_planner.specs.Resuming.{rests_below}
use Rattle.reshard_planner.proofs.Rests.{resumed_is_legal, rests_few, rests_none, rests_step, roomy_first, roomy_now}
use Rattle.reshard_planner.proofs.Rooms.{wide_enough}
use Rattle.reshard_planner.proofs.resuming.plan_of_rests.Goals as goal

pub loop-number-init : goal.loop-number-init
loop-number-init c = record {
  version = ap (λ p. p.version) c.blank_plan-plan.ensures;
  names = ap (λ p. p.names) c.blank_plan-plan.ensures ∙ ap names_for c.nodes.ensures.value;
  few = roomy_first (node_count c.args.survey.now) c.nodes.result c.blank_plan-plan.result c.blank_plan-plan.ensures c.nodes.ensures.value;
  lines = λ phases shows. ap (λ p. p.lines) c.blank_plan-plan.ensures
      ∙ sym (rests_none (node_count c.args.survey.now) c.args.batch phases);
}

pub close-requires-clause-wide : goal.close-requires-clause-wide
close-requires-clause-wide c =
    subst (λ names. node_count c.args.survey.now ≤ (limits_of names).nodes) (sym c.loop-number.invariant.names)
    (wide_enough (node_count c.args.survey.now) (subst (λ n. n ≤ 255) c.nodes.ensures.value c.nodes.ensures.most))

pub close-requires-clause-room : goal.close-requires-clause-room
close-requires-clause-room c =
    roomy_now (node_count c.args.survey.now) c.loop-number.number c.loop-number.plan
    (subst (λ n. n ≤ 255) c.nodes.ensures.value c.nodes.ensures.most) (omega (arith, c.loop-number-test.true)) c.loop-number.invariant.few

pub loop-number-preserved : goal.loop-number-preserved
loop-number-preserved c =
    let h = c.requires.phases c.of.result in
    let few = rests_few c.args.survey.now c.args.batch c.loop-number.number c.of.result c.loop-number.plan c.close.new.plan h.0
    (subst (λ n. n ≤ 255) c.nodes.ensures.value c.nodes.ensures.most) (omega (arith, c.loop-number-test.true)) h.1 c.in_ok-close.ensures c.loop-number.invariant.few in record {
      version = few.1 ∙ c.loop-number.invariant.version;
      names = few.2 ∙ c.loop-number.invariant.names;
      few = few.0;
      lines = λ phases shows. rests_step c.args.survey.now c.args.batch c.loop-number.number c.of.result phases c.loop-number.plan c.close.new.plan
          c.of.ensures shows c.in_ok-close.ensures (c.loop-number.invariant.lines phases shows);
    }

pub returns-clause-legal : goal.returns-clause-legal
returns-clause-legal c phases shows =
    subst (λ v. Legal v (plan_commands (node_count c.args.survey.now) c.loop-number.plan.lines) phases (node_count c.args.survey.now))
    (sym c.loop-number.invariant.version)
    (resumed_is_legal c.args.survey.now c.args.batch phases c.loop-number.plan.lines
    (subst (λ n. 1 ≤ n) c.nodes.ensures.value c.nodes.ensures.least) c.nodes.ensures.slots c.requires.some_keys shows
    (c.loop-number.invariant.lines phases shows ∙ ap (rests_below (node_count c.args.survey.now) c.args.batch phases)
    (omega (arith, c.loop-number-test.false, c.loop-number.auto.number-end))))
