use Rattle.reshard_theorem.proofs.Landed.{asks_stand}
use Rattle.reshard_theorem.proofs.laws.asks_stand.Goals as goal

pub returns : goal.returns
returns c = asks_stand
