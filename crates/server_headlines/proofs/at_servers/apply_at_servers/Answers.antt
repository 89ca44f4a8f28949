use Rattle.server_headlines.proofs.AtServers.{applied_is_run}
use Rattle.server_runs.proofs.Started.{on_ok_then}
use Rattle.server_headlines.proofs.at_servers.apply_at_servers.Goals as goal

pub returns : goal.returns
returns g c =
    on_ok_then c.apply.result _ _ c.apply.ensures
    (applied_is_run (record { gave = g.I.ByteIn.gave; took = g.O.ByteOut.took }) g.W.Watcher.sees g.W.Watcher.hears g.W.Watcher.misses g.row.P.Denot
    (λ p. p.said) (record { plan = c.args.plan.plan; survey = c.args.plan.survey; seat = c.args.seat; before = c.args.before }) (c.args.port.now, c.args.watcher.now)
    (c.apply.new.port, c.apply.new.watcher) c.args.transcript.now c.apply.new.transcript)
