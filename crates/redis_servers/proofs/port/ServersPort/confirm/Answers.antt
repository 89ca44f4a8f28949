use Rattle.std.proofs.Common.{◌∙◌, length, refl, subst, sym}
use Rattle.redis_servers.proofs.InOneGo.{done_is}
use Rattle.redis_servers.proofs.Listeners.{done_stands, they_can, undone_stands}
use Rattle.redis_servers.proofs.There.{there_after}
use Rattle.redis_servers.specs.Asking.{AsksNode}
use Rattle.redis_servers.specs.Hearers.{CanHear}
use Rattle.redis_servers.specs.declared.setup.PortSetup.{PortSetup}
use Rattle.redis_servers.proofs.port.ServersPort.confirm.Goals as goal

pub meet-requires-clause-there : goal.meet-requires-clause-there
meet-requires-clause-there g c =
    there_after c.args.self.now.history c.args.self.now.setup.survey _ c.args.node c.args.command.now c.args.after.now
    c.requires.after (sym c.args.self.now.rows) c.requires.node

pub spread-requires-clause-there : goal.spread-requires-clause-there
spread-requires-clause-there g c =
    let setup = c.args.self.now.setup in
    subst (λ (s : PortSetup). CanHear (length s.book) c.args.spread.hearers.items) (sym c.meet.ensures.setup)
    (they_can setup.waits_for_news setup.survey _ c.args.node c.args.command.now c.args.spread.hearers.items
    c.requires.hearers (sym c.args.self.now.rows) c.requires.node)

pub returns-then-not-is_done-clause-confirms : goal.returns-then-not-is_done-clause-confirms
returns-then-not-is_done-clause-confirms g c =
    undone_stands (AsksNode (record { gave = g.I.ByteIn.gave; took = g.O.ByteOut.took })) c.args.self.now.setup
    c.args.self.now.history c.args.node c.args.command.now c.args.outcome c.args.outcome.given
    c.args.self.now.links.items refl
    (sym c.is_done.ensures ∙ c.if-not-is_done.true)

pub returns-in-Ok-clause-confirms : goal.returns-in-Ok-clause-confirms
returns-in-Ok-clause-confirms g c =
    done_stands (AsksNode (record { gave = g.I.ByteIn.gave; took = g.O.ByteOut.took })) c.args.self.now.setup
    c.args.self.now.history c.args.node c.args.command.now c.meet.new.self.setup c.meet.new.self.history c.args.outcome
    c.args.after.now c.args.spread.hearers.items c.args.self.now.links.items c.meet.new.self.links.items
    c.spread.new.self.links.items c.spread.result.given c.spread.result.said
    (done_is c.args.outcome.given (sym c.is_done.ensures ∙ c.if-not-is_done.false))
    c.requires.after c.requires.hearers c.meet.ensures.setup c.meet.ensures.history c.in-Ok.ensures.met
    c.spread.ensures.spreads
