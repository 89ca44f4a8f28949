use Rattle.resp2_wire.proofs.Streams.{decoding_ignores_chunking}
use Rattle.resp2_wire.proofs.laws.decoding_ignores_chunking.Goals as goal

pub returns : goal.returns
returns c = decoding_ignores_chunking
