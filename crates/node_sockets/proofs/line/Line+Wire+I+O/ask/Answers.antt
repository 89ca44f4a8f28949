use Rattle.std.proofs.Common.{refl, inr}
use Rattle.node_sockets.proofs.line.Line+Wire+I+O.ask.Goals as goal

pub returns-in-Ok : goal.returns-in-Ok
returns-in-Ok g c = (c.ask.new.self, (c.in_ok-wire.wire, c.in_ok-wire.ensures.has.0, c.in-Ok.ensures), refl)

pub returns-in-Err : goal.returns-in-Err
returns-in-Err g c =
    inr (c.ask.new.self, (c.in_ok-wire.wire, c.in_ok-wire.ensures.has.0, c.in-Err.ensures), c.in_ok-wire.ensures.has.1)
