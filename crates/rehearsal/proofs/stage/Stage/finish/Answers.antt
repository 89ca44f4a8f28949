use Rattle.std.proofs.Common.{rules}
use Rattle.rehearsal.proofs.Playing.{ends_reading}
use Rattle.rehearsal.proofs.stage.Stage.finish.Goals as goal

pub returns-in_ok-stage-in-ReadingPlan : goal.returns-in_ok-stage-in-ReadingPlan
returns-in_ok-stage-in-ReadingPlan c =
    let here = c.in-ReadingPlan in
    rw here.is (ends_reading here.recorded here.seat here.text.items c.args.transcript.now c.read_plan.new.transcript c.report_left.new.transcript c.in_ok-stage-in-ReadingPlan.stage c.leave.result c.report_left.result
    (search rules) c.leave.ensures c.report_left.ensures)

pub returns-in-PlanArmed : goal.returns-in-PlanArmed
returns-in-PlanArmed c = rw c.in-PlanArmed.is (rw c.give_up.ensures at c.report_left-in-PlanArmed.ensures)
