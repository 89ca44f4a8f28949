use Rattle.std.proofs.Common.{◌≡◌, ◌-◌, length}
use Rattle.server_runs.proofs.Stepping.{Far}
use Rattle.server_runs.proofs.in_one_go.run_in_one_go.Given as goal

abbrev pub invariant-loop-next : goal.invariant-loop-next
invariant-loop-next g l = record {
  nodes : length l.port.setup.book ≡ l.plan.progress.nodes;
  far : Far (record { gave = g.I.ByteIn.gave; took = g.O.ByteOut.took }) (record { sees = g.W.Watcher.sees; hears = g.W.Watcher.hears; misses = g.W.Watcher.misses }) (l.fn.port, l.fn.watcher) (l.port, l.watcher) l.fn.plan.progress l.plan.progress l.told;
}

abbrev pub decreases-loop-next : goal.decreases-loop-next
decreases-loop-next g l = 18446744073709551615 - l.plan.progress.spent
