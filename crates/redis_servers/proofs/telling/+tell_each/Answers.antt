use Rattle.std.proofs.Common.{◌≡◌, ◌∷◌, ℕ, List, Some, arith, subst, sym}
use Rattle.cluster_admin.specs.Phases.{IsDistinct}
use Rattle.redis_servers.proofs.InOneGo.{first_is, later_nodes, told_on}
use Rattle.redis_servers.specs.Asking.{AsksNode}
use Rattle.redis_servers.specs.InOneGo.{TellsOn}
use Rattle.redis_servers.specs.declared.telling.Telling.{Telling}
use Rattle.redis_servers.proofs.telling.+tell_each.Goals as goal

pub returns-clause-told : goal.returns-clause-told
returns-clause-told g t c =
    let nodes : List ℕ = c.args.nodes.now in
    let n : ℕ = c.node-item.result in
    let is : nodes ≡ n ∷ later_nodes nodes = first_is nodes n (omega arith) c.node-item.is in
    subst (λ (ns : List ℕ). TellsOn (AsksNode (record { gave = g.I.ByteIn.gave; took = g.O.ByteOut.took })) c.args.setup.now c.args.history.now c.args.request.now c.args.command.now
    c.args.links.now.items ns c.args.answers.now.items c.put.new.answers.items (Some c.told_of.result) c.finish_at-given.new.links.items) (sym is)
    (subst (λ (r : Telling). TellsOn (AsksNode (record { gave = g.I.ByteIn.gave; took = g.O.ByteOut.took })) c.args.setup.now c.args.history.now c.args.request.now c.args.command.now
    c.args.links.now.items (n ∷ later_nodes nodes) c.args.answers.now.items c.put.new.answers.items (Some r) c.finish_at-given.new.links.items) (sym c.told_of.ensures)
    (told_on (record { gave = g.I.ByteIn.gave; took = g.O.ByteOut.took }) c.args.setup.now c.args.history.now c.args.request.now c.args.command.now c.args.links.now.items
    c.send_to-sent.new.links.items c.tell_each-later.new.links.items c.finish_at-given.new.links.items n (later_nodes nodes) c.send_to-sent.result
    c.finish_at-given.result c.args.answers.now.items c.tell_each-later.new.answers.items c.put.new.answers.items c.telling_of-own.result
    c.tell_each-later.result (subst IsDistinct is c.requires.distinct) c.send_to-sent.ensures.sent c.tell_each-later.ensures.told
    c.finish_at-given.ensures.finished c.telling_of-own.ensures c.put.ensures.items))
