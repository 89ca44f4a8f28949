use Rattle.std.proofs.Common.{ap, ◌∙◌, arith}
use Rattle.cluster_admin.specs.Surveys.{nodes_saying}
use Rattle.plan_runner.specs.SlotStates.{told_but}
use Rattle.plan_runner.proofs.slot_state.told_but_saying.Goals as goal

pub returns : goal.returns
returns g c =
    c.loop-number.invariant ∙ ap (λ k. told_but k (nodes_saying c.args.survey.now c.args.slot c.args.owner))
    (omega (arith, c.loop-number-test.false, c.loop-number.auto.number-end, c.nodes-nodes.ensures.value))
