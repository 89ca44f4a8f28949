use Rattle.std.proofs.Common.{◌∙◌, Ok, Err}
use Rattle.server_replicas.proofs.Asked.{asked_as, listed, silent}
use Rattle.server_replicas.specs.Asking.{AsksReplicas}
use Rattle.server_replicas.proofs.asking.replicas_at.Goals as goal

pub returns-in-Ok-clause-listed : goal.returns-in-Ok-clause-listed
unfolding AsksReplicas
returns-in-Ok-clause-listed g c =
    listed (AsksReplicas (record { gave = g.I.ByteIn.gave; took = g.O.ByteOut.took }) c.args.id.now) c.args.node
    c.args.links.now.items c.ask_at.new.links.items _ c.in-Ok.reply c.lines_told.result
    (asked_as (record { gave = g.I.ByteIn.gave; took = g.O.ByteOut.took }) _ _ c.args.links.now.items
    c.ask_at.new.links.items c.args.node (Ok c.in-Ok.reply) (c.as_slice.ensures.value ∙ c.in_ok-request.ensures)
    c.in-Ok.ensures.asked)
    c.lines_told.ensures

pub returns-clause-listed : goal.returns-clause-listed
unfolding AsksReplicas
returns-clause-listed g c =
    silent (AsksReplicas (record { gave = g.I.ByteIn.gave; took = g.O.ByteOut.took }) c.args.id.now) c.args.node
    c.args.links.now.items c.ask_at.new.links.items c.in-Err.field-0
    (asked_as (record { gave = g.I.ByteIn.gave; took = g.O.ByteOut.took }) _ _ c.args.links.now.items
    c.ask_at.new.links.items c.args.node (Err c.in-Err.field-0) (c.as_slice.ensures.value ∙ c.in_ok-request.ensures)
    c.in-Err.ensures.asked)
