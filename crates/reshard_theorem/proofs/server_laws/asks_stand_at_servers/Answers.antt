use Rattle.reshard_theorem.proofs.Retargets.{asks_stand}
use Rattle.reshard_theorem.proofs.server_laws.asks_stand_at_servers.Goals as goal

pub returns : goal.returns
returns c = asks_stand
