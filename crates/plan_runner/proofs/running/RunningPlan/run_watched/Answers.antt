use Rattle.std.proofs.Common.{arith, refl, sym, ◌∙◌}
use Rattle.plan_runner.specs.declared.plan_state.PlanState.TheVariants.{Done, Stopped}
use Rattle.plan_runner.proofs.Watched.{watched_end, watched_on, watched_sends}
use Rattle.plan_runner.proofs.running.RunningPlan.run_watched.Goals as goal

pub loop-next-preserved : goal.loop-next-preserved
loop-next-preserved g c =
    let inv = c.loop-next.invariant in
    let calls = g.P.AdminPort.calls in
    let r = watched_sends (record { moves = g.P.AdminPort.moves; fails = g.P.AdminPort.fails; sees = g.W.Watcher.sees; hears = g.W.Watcher.hears; misses = g.W.Watcher.misses }) (c.loop-next.port, c.loop-next.watcher) (c.advance_watched.new.port, c.advance_watched.new.watcher) c.loop-next.plan.progress c.in-Running.next.progress (calls c.loop-next.plan.seat) (calls c.in-Running.next.seat)
    c.in-Running.ensures.sends in
    record {
      fits = c.in-Running.ensures.seat;
      nodes = c.in-Running.ensures.nodes ∙ inv.nodes ∙ sym r.1;
      kept = c.in-Running.ensures.nodes ∙ inv.kept;
      so_far = watched_on (record { moves = g.P.AdminPort.moves; fails = g.P.AdminPort.fails; sees = g.W.Watcher.sees; hears = g.W.Watcher.hears; misses = g.W.Watcher.misses }) (c.args.port.now, c.args.watcher.now) (c.loop-next.port, c.loop-next.watcher) (c.advance_watched.new.port, c.advance_watched.new.watcher) c.args.self.progress c.loop-next.plan.progress c.in-Running.next.progress
          (calls c.args.self.seat) (calls c.loop-next.plan.seat) (calls c.in-Running.next.seat) inv.so_far c.in-Running.ensures.sends;
    }

pub loop-next-smaller : goal.loop-next-smaller
loop-next-smaller g c =
    let calls = g.P.AdminPort.calls in
    let r = watched_sends (record { moves = g.P.AdminPort.moves; fails = g.P.AdminPort.fails; sees = g.W.Watcher.sees; hears = g.W.Watcher.hears; misses = g.W.Watcher.misses }) (c.loop-next.port, c.loop-next.watcher) (c.advance_watched.new.port, c.advance_watched.new.watcher) c.loop-next.plan.progress c.in-Running.next.progress (calls c.loop-next.plan.seat) (calls c.in-Running.next.seat)
    c.in-Running.ensures.sends in
    let room = c.in-Running.ensures.room in
    omega (arith, r.2, r.3, room)

pub returns-in-Done-clause-runs : goal.returns-in-Done-clause-runs
returns-in-Done-clause-runs g c =
    let calls = g.P.AdminPort.calls in
    watched_end (record { moves = g.P.AdminPort.moves; fails = g.P.AdminPort.fails; sees = g.W.Watcher.sees; hears = g.W.Watcher.hears; misses = g.W.Watcher.misses }) (c.args.port.now, c.args.watcher.now) (c.loop-next.port, c.loop-next.watcher) (c.advance_watched.new.port, c.advance_watched.new.watcher) c.args.self.progress c.loop-next.plan.progress (calls c.args.self.seat) (calls c.loop-next.plan.seat) (calls c.in-Done.done.seat)
    (Done c.in-Done.done.spent) tt c.loop-next.invariant.so_far c.in-Done.ensures.sends

pub returns-in-Stopped-clause-runs : goal.returns-in-Stopped-clause-runs
returns-in-Stopped-clause-runs g c =
    let calls = g.P.AdminPort.calls in
    watched_end (record { moves = g.P.AdminPort.moves; fails = g.P.AdminPort.fails; sees = g.W.Watcher.sees; hears = g.W.Watcher.hears; misses = g.W.Watcher.misses }) (c.args.port.now, c.args.watcher.now) (c.loop-next.port, c.loop-next.watcher) (c.advance_watched.new.port, c.advance_watched.new.watcher) c.args.self.progress c.loop-next.plan.progress (calls c.args.self.seat) (calls c.loop-next.plan.seat) (calls c.in-Stopped.stopped.seat)
    (Stopped c.in-Stopped.stopped.cause c.in-Stopped.stopped.spent) tt c.loop-next.invariant.so_far c.in-Stopped.ensures.sends
