use Rattle.server_headlines.proofs.WorldsSettled.{opened}
use Rattle.server_headlines.proofs.laws.settled_worlds_are_open.Goals as goal

pub returns : goal.returns
returns c = opened
