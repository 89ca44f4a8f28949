use Rattle.std.proofs.Common.{arith}
use Rattle.plan_runner.proofs.Surveyed.{first_set, first_stands}
use Rattle.plan_runner.proofs.plan_check.PlanCheck.new.Goals as goal

pub loop-number-preserved : goal.loop-number-preserved
loop-number-preserved g c =
    first_set c.args.survey.now c.loop-number.slots.items c.loop-number.number c.of-in-loop-number.result c.first_progress-in-loop-number.result
    c.loop-number.invariant.0 c.loop-number-test.true c.of-in-loop-number.ensures c.first_progress-in-loop-number.ensures c.loop-number.invariant.1

pub returns-clause-stands : goal.returns-clause-stands
returns-clause-stands g c v phases shows =
    first_stands c.args.survey.now c.loop-number.slots.items v phases
    (omega (arith, c.requires.nodes, c.requires.most)) c.loop-number.invariant.0
    (λ s h. c.loop-number.invariant.1 s (omega (arith, h, c.loop-number-test.false))) shows
