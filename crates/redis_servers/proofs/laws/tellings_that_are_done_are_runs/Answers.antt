use Rattle.redis_servers.proofs.InOneGo.{tellings_run}
use Rattle.redis_servers.proofs.laws.tellings_that_are_done_are_runs.Goals as goal

pub returns : goal.returns
returns g c = tellings_run (record { gave = g.I.ByteIn.gave; took = g.O.ByteOut.took }) g.row.P.Denot
