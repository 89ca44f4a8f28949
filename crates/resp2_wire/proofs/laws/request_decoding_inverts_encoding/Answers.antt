use Rattle.resp2_wire.proofs.RequestSpelling.{request_decoding_inverts_encoding}
use Rattle.resp2_wire.proofs.laws.request_decoding_inverts_encoding.Goals as goal

pub returns : goal.returns
returns c = request_decoding_inverts_encoding
