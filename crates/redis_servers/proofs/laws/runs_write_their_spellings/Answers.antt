use Rattle.redis_servers.proofs.Writing.{runs_write}
use Rattle.redis_servers.proofs.laws.runs_write_their_spellings.Goals as goal

pub returns : goal.returns
returns g c =
    runs_write (record { gave = g.I.ByteIn.gave; took = g.O.ByteOut.took }) g.met.O.ByteOut.took_none g.met.O.ByteOut.took_then g.row.P.Denot
