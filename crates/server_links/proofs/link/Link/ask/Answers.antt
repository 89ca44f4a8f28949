use Rattle.server_links.proofs.InTwo.{sent_then_received}
use Rattle.server_links.proofs.link.Link.ask.Goals as goal

pub returns-in-Ok-clause-exchanged : goal.returns-in-Ok-clause-exchanged
returns-in-Ok-clause-exchanged g c =
    sent_then_received (record { gave = g.I.ByteIn.gave; took = g.O.ByteOut.took }) c.args.request.now c.args.self.now
    c.send.new.self c.receive.new.self c.in-Ok.field-0 c.receive.result c.in-Ok.ensures.sent c.receive.ensures.received
