use Rattle.std.specs.Prelude.{vec_len}
use Rattle.cluster_inspection.proofs.Returned.{away, withheld}
use Rattle.cluster_inspection.proofs.returning.check_returning.Goals as goal

pub returns-clause-away : goal.returns-clause-away
returns-clause-away g c =
    let again = c.in_ok-again.again in
    away _ c.args.servers.now.left_out.items again.book again.left_out.items again.surveyed.survey
    again.surveyed.epochs.items (vec_len again.links) c.in_ok-again.ensures.beside c.dead_ids-dead.result.now _
    c.names_listed.result.now _ c.lines.result.now _ c.check_targets.result c.dead_ids-dead.ensures
    c.names_listed.ensures.value c.lines.ensures.value c.in_ok-again.ensures.numbered c.check_targets.ensures.away

pub returns-clause-withheld : goal.returns-clause-withheld
returns-clause-withheld g c =
    let again = c.in_ok-again.again in
    withheld _ c.args.servers.now.left_out.items c.as_slice.result.now again.book again.left_out.items
    again.surveyed.survey again.surveyed.epochs.items (vec_len again.links) c.in_ok-again.ensures.beside
    c.dead_ids-dead.result.now _ c.names_listed.result.now _ c.lines.result.now _ c.check_targets.result
    c.as_slice.ensures.value c.if-is_empty.ensures c.dead_ids-dead.ensures c.names_listed.ensures.value
    c.lines.ensures.value c.in_ok-again.ensures.numbered c.check_targets.ensures.held
