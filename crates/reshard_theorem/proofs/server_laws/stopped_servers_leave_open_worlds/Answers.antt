use Rattle.reshard_theorem.proofs.HonestRuns.{leaves_open}
use Rattle.reshard_theorem.proofs.server_laws.stopped_servers_leave_open_worlds.Goals as goal

pub returns : goal.returns
returns c = leaves_open
