use Rattle.reshard_theorem.proofs.Prefixes.{prefixes_are_driven}
use Rattle.reshard_theorem.proofs.server_laws.server_prefixes_are_driven.Goals as goal

pub returns : goal.returns
returns c = prefixes_are_driven
