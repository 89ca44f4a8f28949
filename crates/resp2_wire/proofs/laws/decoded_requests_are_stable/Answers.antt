use Rattle.resp2_wire.proofs.Staying.{is_request}
use Rattle.resp2_wire.proofs.laws.decoded_requests_are_stable.Goals as goal

pub returns : goal.returns
returns c = is_request.stays
