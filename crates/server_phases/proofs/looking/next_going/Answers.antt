use Rattle.std.proofs.Common.{◌==◌, cond, None, length, sym, ◌∙◌, arith}
use Rattle.cluster_views.proofs.Firsts.{number_first, number_here, number_past}
use Rattle.server_phases.specs.Strange.{going_at}
use Rattle.server_phases.proofs.looking.next_going.Goals as goal

pub loop-number-init : goal.loop-number-init
loop-number-init c = number_first _ _

pub loop-number-preserved : goal.loop-number-preserved
loop-number-preserved c =
    let v = c.args.survey.now in
    c.loop-number.invariant
    ∙ number_past (λ n. cond (n == c.args.but) None (going_at v c.args.slot n)) (length v.rows) c.loop-number.number
    c.of.result c.going_beside-mark.result (omega arith) c.of.ensures c.going_beside-mark.ensures c.if-is_some.ensures

pub returns-then-is_some : goal.returns-then-is_some
returns-then-is_some c =
    let v = c.args.survey.now in
    number_here (λ n. cond (n == c.args.but) None (going_at v c.args.slot n)) (length v.rows) c.loop-number.number
    c.of.result c.going_beside-mark.result (omega arith) c.of.ensures c.going_beside-mark.ensures c.if-is_some.ensures
    ∙ sym c.loop-number.invariant
