use Rattle.redirect_client.proofs.Executing.{executions_are_runs, asking_joins}
use Rattle.redirect_client.proofs.laws.executions_over_worlds_are_runs.Goals as goal

pub returns-clause-runs : goal.returns-clause-runs
returns-clause-runs c = executions_are_runs

pub returns-clause-joins : goal.returns-clause-joins
returns-clause-joins c = asking_joins
