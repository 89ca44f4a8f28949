use Rattle.server_headlines.proofs.AtServers.{applied_is_run}
use Rattle.server_headlines.proofs.laws.applied_plans_have_the_headline.Goals as goal

pub returns : goal.returns
returns g c =
    applied_is_run (record { gave = g.I.ByteIn.gave; took = g.O.ByteOut.took }) g.W.Watcher.sees g.W.Watcher.hears g.W.Watcher.misses g.row.P.Denot
