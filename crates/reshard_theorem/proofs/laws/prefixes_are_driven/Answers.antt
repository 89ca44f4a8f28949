use Rattle.reshard_theorem.proofs.Landed.{prefixes_are_driven}
use Rattle.reshard_theorem.proofs.laws.prefixes_are_driven.Goals as goal

pub returns : goal.returns
returns c = prefixes_are_driven
