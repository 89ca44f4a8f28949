use Rattle.rehearsal.proofs.SinceArming.{stays_open}
use Rattle.rehearsal.proofs.laws.abandoned_plans_leave_open_worlds.Goals as goal

pub returns : goal.returns
returns c = stays_open c.stopped_runs_leave_open_worlds.ensures
