use Rattle.resp2_wire.proofs.ReplyStaying.{decoded_replies_are_stable}
use Rattle.resp2_wire.proofs.laws.decoded_replies_are_stable.Goals as goal

pub returns : goal.returns
returns c = decoded_replies_are_stable
