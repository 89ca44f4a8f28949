use Rattle.std.proofs.Common.{◌∙◌, subst, sym}
use Rattle.cluster_admin.specs.declared.admin.AdminCommand.TheVariants.{SetNode}
use Rattle.redis_servers.proofs.InOneGo.{told_all}
use Rattle.redis_servers.specs.Asking.{AsksNode}
use Rattle.redis_servers.specs.InOneGo.{TellsOn}
use Rattle.redis_servers.proofs.port.ServersPort.tell_all.Goals as goal

pub returns : goal.returns
returns g c =
    told_all (record { gave = g.I.ByteIn.gave; took = g.O.ByteOut.took }) c.args.slot c.args.owner c.args.nodes.now c.as_slice.result.now
    c.args.self.now c.settle.new.self c.args.prepared.answers.items c.tell_each-telling.new.answers.items c.reverse.new.self.items
    c.tell_each-telling.result c.requires.going (c.as_slice.ensures.value ∙ c.requires.request) c.requires.answers
    (subst (λ v. TellsOn (AsksNode (record { gave = g.I.ByteIn.gave; took = g.O.ByteOut.took })) c.args.self.now.setup c.args.self.now.history c.as_slice.result.now
    (SetNode c.args.slot c.args.owner) c.args.self.now.links.items c.args.nodes.now c.args.prepared.answers.items c.tell_each-telling.new.answers.items
    c.tell_each-telling.result v.items) (sym c.settle.ensures.links) c.tell_each-telling.ensures.told)
    c.reverse.ensures.items (c.settle.ensures.said ∙ c.said_of.ensures) c.settle.ensures.setup c.settle.ensures.history
    (c.settle.ensures.stopped ∙ c.stops_by-stops.ensures) c.settle.ensures.unheard
