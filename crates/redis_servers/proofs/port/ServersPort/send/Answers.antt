use Rattle.std.proofs.Common.{◌∙◌, sym}
use Rattle.redis_servers.proofs.Checks.{sends_by}
use Rattle.redis_servers.proofs.There.{there_before}
use Rattle.redis_servers.specs.Asking.{AsksNode}
use Rattle.redis_servers.proofs.port.ServersPort.send.Goals as goal

pub meet-requires-clause-there : goal.meet-requires-clause-there
meet-requires-clause-there g c =
    there_before c.args.self.now.setup.waits_for_news c.args.self.now.history c.args.self.now.setup.survey _ c.args.node
    c.args.command.now c.as_slice.result.now (c.as_slice.ensures.value ∙ c.requires.before) (sym c.args.self.now.rows)
    c.requires.node c.args.self.now.receivers c.requires.named

pub returns-in-Ok-clause-sends : goal.returns-in-Ok-clause-sends
returns-in-Ok-clause-sends g c =
    sends_by (AsksNode (record { gave = g.I.ByteIn.gave; took = g.O.ByteOut.took })) c.args.self.now.setup c.meet.new.self.setup
    c.command-outcome.new.self.setup c.args.self.now.history c.meet.new.self.history c.command-outcome.new.self.history c.args.node
    c.args.command.now c.as_slice-in-Ok.result.now c.as_slice.result.now c.args.self.now.links.items c.meet.new.self.links.items
    c.command-outcome.new.self.links.items c.confirm.new.self.links.items c.command-outcome.result c.confirm.result.given
    c.confirm.result.said (c.as_slice.ensures.value ∙ c.requires.before) (c.as_slice-in-Ok.ensures.value ∙ c.requires.request)
    c.meet.ensures.setup c.meet.ensures.history c.command-outcome.ensures.setup c.command-outcome.ensures.history
    c.in-Ok.ensures.met c.command-outcome.ensures.commands c.confirm.ensures.confirms
