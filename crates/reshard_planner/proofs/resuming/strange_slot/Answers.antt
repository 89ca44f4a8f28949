use Rattle.std.proofs.Common.{◌≤◌, arith, inl, inr, length}
use Rattle.std.proofs.lemmas.Bool.{cases_lt}
use Rattle.cluster_admin.specs.Surveys.{phase_seen}
use Rattle.cluster_admin.proofs.Phasing.{closed_beyond}
use Rattle.reshard_planner.proofs.Rests.{phases_more}
use Rattle.reshard_planner.proofs.resuming.strange_slot.Goals as goal

pub loop-number-preserved : goal.loop-number-preserved
loop-number-preserved c =
    phases_more c.args.survey.now c.loop-number.number c.of-slot.result (phase_seen c.args.survey.now c.of-slot.result c.in-Some._phase)
    c.of-slot.ensures c.in-Some.ensures.phase c.loop-number.invariant

pub returns : goal.returns
returns c s =
    let some : 1 ≤ length c.args.survey.now.rows = omega (arith, c.nodes-nodes.ensures.value, c.nodes-nodes.ensures.least) in
    elim (cases_lt s 16384) [
      | inl l ↦ c.loop-number.invariant s (omega (arith, l, c.loop-number-test.false))
      | inr g ↦ closed_beyond c.args.survey.now s c.nodes-nodes.ensures.slots some g
    ]
