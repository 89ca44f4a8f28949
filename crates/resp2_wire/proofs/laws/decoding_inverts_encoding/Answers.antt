use Rattle.resp2_wire.proofs.Again.{decoding_inverts_encoding}
use Rattle.resp2_wire.proofs.laws.decoding_inverts_encoding.Goals as goal

pub returns : goal.returns
returns c = decoding_inverts_encoding
