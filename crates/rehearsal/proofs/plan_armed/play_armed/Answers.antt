use Rattle.std.proofs.Common.{length}
use Rattle.rehearsal.specs.PlanArmed.{armed_form}
use Rattle.rehearsal.proofs.LinesBeside.{took_step, was_abandoned, was_played, was_run}
use Rattle.rehearsal.proofs.plan_armed.play_armed.Goals as goal

pub returns-in-Ok-Played-clause-plays : goal.returns-in-Ok-Played-clause-plays
returns-in-Ok-Played-clause-plays c =
    let arm = c.in-Ok-Played in
    was_played c.args.recorded c.play_beside.new.recorded c.args.plan c.args.transcript.now
    c.play_beside.new.transcript (armed_form (length c.args.recorded.world.nodes) c.args.line.now)
    (rw arm.field-0-is at arm.ensures.plays)

pub returns-in-Ok-Step-clause-plays : goal.returns-in-Ok-Step-clause-plays
returns-in-Ok-Step-clause-plays c =
    let arm = c.in-Ok-Step in
    took_step c.args.recorded c.play_beside.new.recorded c.args.plan c.args.transcript.now
    c.play_beside.new.transcript (armed_form (length c.args.recorded.world.nodes) c.args.line.now) c.step.result
    c.step.new.transcript (rw arm.field-0-is at arm.ensures.plays) c.step.ensures.stepped

pub returns-in-Ok-Run-clause-plays : goal.returns-in-Ok-Run-clause-plays
returns-in-Ok-Run-clause-plays c =
    let arm = c.in-Ok-Run in
    was_run c.args.recorded c.play_beside.new.recorded c.args.plan c.args.transcript.now
    c.play_beside.new.transcript (armed_form (length c.args.recorded.world.nodes) c.args.line.now) c.run.result
    c.run.new.transcript (rw arm.field-0-is at arm.ensures.plays) c.run.ensures.ran

pub returns-in-Ok-Abandon-clause-plays : goal.returns-in-Ok-Abandon-clause-plays
returns-in-Ok-Abandon-clause-plays c =
    let arm = c.in-Ok-Abandon in
    was_abandoned c.args.recorded c.play_beside.new.recorded c.args.plan c.args.transcript.now
    c.play_beside.new.transcript (armed_form (length c.args.recorded.world.nodes) c.args.line.now) c.abandon.result
    c.abandon.new.transcript (rw arm.field-0-is at arm.ensures.plays) c.abandon.ensures.abandoned
