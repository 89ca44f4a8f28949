use Rattle.reshard_theorem.proofs.Quietly.{quiet_reshard}
use Rattle.reshard_theorem.proofs.server_laws.quiet_plans_take_their_cost_at_servers.Goals as goal

pub returns : goal.returns
returns c = quiet_reshard
