use Rattle.std.proofs.Common.{◌≡◌, ◌-◌}
use Rattle.plan_runner.proofs.Going.{SoFar}
use Rattle.plan_runner.proofs.running.RunningPlan.run.Given as goal

abbrev pub invariant-loop-next : goal.invariant-loop-next
invariant-loop-next g l = record {
  fits : g.P.AdminPort.fits l.port l.plan.seat;
  nodes : g.P.NodeCount.count l.port ≡ l.plan.progress.nodes;
  kept : g.P.NodeCount.count l.port ≡ g.P.NodeCount.count l.fn.port;
  so_far : SoFar g.P.AdminPort.moves l.fn.port l.port l.fn.self.progress l.plan.progress (g.P.AdminPort.calls l.fn.self.seat) (g.P.AdminPort.calls l.plan.seat);
}

abbrev pub decreases-loop-next : goal.decreases-loop-next
decreases-loop-next g l = l.plan.progress.most - l.plan.progress.spent
