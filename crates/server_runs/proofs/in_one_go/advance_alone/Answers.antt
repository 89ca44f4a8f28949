use Rattle.plan_runner.specs.Advancing.{plan_of, seat_of}
use Rattle.server_runs.proofs.Stepping.{alone}
use Rattle.server_runs.proofs.in_one_go.advance_alone.Goals as goal

pub returns-clause-advances : goal.returns-clause-advances
returns-clause-advances g c told =
    alone (record { gave = g.I.ByteIn.gave; took = g.O.ByteOut.took })
    (record { sees = g.W.Watcher.sees; hears = g.W.Watcher.hears; misses = g.W.Watcher.misses })
    (c.args.port.now, c.args.watcher.now) (c.advance_watched.new.port, c.advance_watched.new.watcher)
    c.args.plan.seat (seat_of c.advance_watched.result) c.args.plan.progress (plan_of c.advance_watched.result)
    c.of.result c.next_owner_told-told.result told c.next_owner_told-told.ensures c.of.ensures.state c.of.ensures.told
    c.advance_watched.ensures.sends
