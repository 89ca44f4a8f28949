use Rattle.resp2_wire.proofs.Spelt.{encoding_is_canonical}
use Rattle.resp2_wire.proofs.laws.encoding_is_canonical.Goals as goal

pub returns : goal.returns
returns c = encoding_is_canonical
