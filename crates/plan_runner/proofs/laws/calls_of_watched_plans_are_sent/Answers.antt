use Rattle.plan_runner.proofs.LeftAnywhere.{watched_steps_are_sent, watched_runs_are_sent}
use Rattle.plan_runner.proofs.laws.calls_of_watched_plans_are_sent.Goals as goal

pub returns-clause-steps : goal.returns-clause-steps
returns-clause-steps g c = watched_steps_are_sent (record { moves = g.P.AdminPort.moves; fails = g.P.AdminPort.fails; sees = g.W.Watcher.sees; hears = g.W.Watcher.hears; misses = g.W.Watcher.misses })

pub returns-clause-runs : goal.returns-clause-runs
returns-clause-runs g c = watched_runs_are_sent (record { moves = g.P.AdminPort.moves; fails = g.P.AdminPort.fails; sees = g.W.Watcher.sees; hears = g.W.Watcher.hears; misses = g.W.Watcher.misses })
