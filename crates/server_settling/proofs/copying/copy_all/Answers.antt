use Rattle.std.proofs.Common.{rules, ◌<◌, length, Err}
use Rattle.server_settling.specs.Asking.{Sends}
use Rattle.server_settling.proofs.Sending.{batch_sent, batch_stops}
use Rattle.server_settling.proofs.copying.copy_all.Goals as goal

pub loop-rest-preserved : goal.loop-rest-preserved
loop-rest-preserved g c =
    let keys = c.loop-rest.rest.now in
    let some : 0 < length keys = search rules in (
      (λ r links' rest.
          c.loop-rest.invariant.0 r links'
          (batch_sent (Sends (record { gave = g.I.ByteIn.gave; took = g.O.ByteOut.took })) c.args.setup.now c.args.open.now keys c.batch_of.result.0.now
          c.from.result some c.from.ensures c.batch_of.ensures.first c.batch_of.result.1.now c.loop-rest.links.items
          c.copy.new.links.items links' r c.in-Ok.field-0 c.batch_of.ensures.others c.in-Ok.ensures.copies rest)),
      search rules,
    )

pub returns-in-Err-clause-copies : goal.returns-in-Err-clause-copies
returns-in-Err-clause-copies g c =
    let keys = c.loop-rest.rest.now in
    let some : 0 < length keys = search rules in
    c.loop-rest.invariant.0 (Err c.in-Err.stop) c.copy.new.links.items
    (batch_stops (Sends (record { gave = g.I.ByteIn.gave; took = g.O.ByteOut.took })) c.args.setup.now c.args.open.now keys c.batch_of.result.0.now
    c.from.result some c.from.ensures c.batch_of.ensures.first c.loop-rest.links.items c.copy.new.links.items
    c.in-Err.stop c.in-Err.ensures.copies)
