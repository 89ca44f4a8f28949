use Rattle.plan_runner.proofs.LeftAnywhere.{steps_are_sent, runs_are_sent}
use Rattle.plan_runner.proofs.laws.calls_of_plans_are_sent.Goals as goal

pub returns-clause-steps : goal.returns-clause-steps
returns-clause-steps g c = steps_are_sent (record { moves = g.P.AdminPort.moves; fails = g.P.AdminPort.fails })

pub returns-clause-runs : goal.returns-clause-runs
returns-clause-runs g c = runs_are_sent (record { moves = g.P.AdminPort.moves; fails = g.P.AdminPort.fails })
