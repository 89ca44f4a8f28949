use Rattle.resp2_wire.proofs.RequestSpelling.{request_encoding_is_canonical}
use Rattle.resp2_wire.proofs.laws.request_encoding_is_canonical.Goals as goal

pub returns : goal.returns
returns c = request_encoding_is_canonical
