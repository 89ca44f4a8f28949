use Rattle.std.proofs.Common.{Err}
use Rattle.server_settling.specs.Asking.{Sends}
use Rattle.server_settling.specs.Quieting.{Ends}
use Rattle.server_settling.proofs.Sending.{first_stops}
use Rattle.server_settling.proofs.quieting.end_all.Goals as goal

pub returns-in-Err-clause-ends : goal.returns-in-Err-clause-ends
returns-in-Err-clause-ends g c =
    c.loop-rest.invariant.0 (Err c.in-Err.stop) c.end.new.links.items
    (first_stops (Ends (Sends (record { gave = g.I.ByteIn.gave; took = g.O.ByteOut.took })) c.args.target) c.loop-rest.rest.now c.loop-rest.links.items
    c.end.new.links.items c.in-Err.stop c.in-len1-up.len_at_least c.in-Err.ensures.ends)
