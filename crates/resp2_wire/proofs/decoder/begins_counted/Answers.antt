use Rattle.resp2_wire.proofs.ShortHeaders.{counted}
use Rattle.resp2_wire.proofs.decoder.begins_counted.Goals as goal

pub returns-in-Ok : goal.returns-in-Ok
returns-in-Ok c = counted c.args.bytes.now c.in-Ok.rest.now c.first_digit_of.result c.is_some.result c.is_some.ensures (λ x. x.1.now) c.in-Ok.ensures c.first_digit_of.ensures
