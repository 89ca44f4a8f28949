use Rattle.reshard_theorem.proofs.Servers.{runs_are_server_runs, world_may_reply}
use Rattle.reshard_theorem.proofs.server_laws.runs_are_server_runs.Goals as goal

pub returns-clause-reply : goal.returns-clause-reply
returns-clause-reply c = world_may_reply

pub returns-clause-runs : goal.returns-clause-runs
returns-clause-runs c = runs_are_server_runs
