use Rattle.slotwise_runs.proofs.Schedules.{each_schedule_is_run}
use Rattle.slotwise_runs.proofs.laws.each_schedule_is_a_run.Goals as goal

pub returns : goal.returns
returns c = each_schedule_is_run
