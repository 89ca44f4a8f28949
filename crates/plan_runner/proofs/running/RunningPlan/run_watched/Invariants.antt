use Rattle.std.proofs.Common.{◌≡◌, ◌-◌}
use Rattle.plan_runner.proofs.Watched.{Far}
use Rattle.plan_runner.proofs.running.RunningPlan.run_watched.Given as goal

abbrev pub invariant-loop-next : goal.invariant-loop-next
invariant-loop-next g l = record {
  fits : g.P.AdminPort.fits l.port l.plan.seat;
  nodes : g.P.NodeCount.count l.port ≡ l.plan.progress.nodes;
  kept : g.P.NodeCount.count l.port ≡ g.P.NodeCount.count l.fn.port;
  so_far : Far (record { moves = g.P.AdminPort.moves; fails = g.P.AdminPort.fails; sees = g.W.Watcher.sees; hears = g.W.Watcher.hears; misses = g.W.Watcher.misses }) (l.fn.port, l.fn.watcher) (l.port, l.watcher) l.fn.self.progress l.plan.progress (g.P.AdminPort.calls l.fn.self.seat) (g.P.AdminPort.calls l.plan.seat);
}

abbrev pub decreases-loop-next : goal.decreases-loop-next
decreases-loop-next g l = l.plan.progress.most - l.plan.progress.spent
