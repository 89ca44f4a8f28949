use Rattle.redis_servers.proofs.Faults.{sent}
use Rattle.redis_servers.proofs.port.ServersPort.answer.Goals as goal

pub returns-in-Ok-clause-memory : goal.returns-in-Ok-clause-memory
returns-in-Ok-clause-memory g c = λ e. absurd
    (sent (record { gave = g.I.ByteIn.gave; took = g.O.ByteOut.took }) c.args.self.now.setup c.args.self.now.history c.args.node
    c.args.command.now c.args.self.now.links.items c.send.new.self.links.items c.send.result.given c.send.result.said
    c.send.ensures.sends e)
