use Rattle.reshard_theorem.proofs.Stages.{headline_over_plans}
use Rattle.reshard_theorem.proofs.server_laws.headline_over_plans_at_servers.Goals as goal

pub returns : goal.returns
returns c = headline_over_plans
