use Rattle.reshard_theorem.proofs.Answered.{runs_are_listed, server_runs_are_listed}
use Rattle.reshard_theorem.proofs.laws.listings_are_answered.Goals as goal

pub returns-clause-runs : goal.returns-clause-runs
returns-clause-runs c = runs_are_listed

pub returns-clause-servers : goal.returns-clause-servers
returns-clause-servers c = server_runs_are_listed
