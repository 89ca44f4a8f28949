use Rattle.reshard_theorem.proofs.Landed.{leaves_open}
use Rattle.reshard_theorem.proofs.laws.stopped_runs_leave_open_worlds.Goals as goal

pub returns : goal.returns
returns c = leaves_open
