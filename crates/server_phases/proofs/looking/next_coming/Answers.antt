use Rattle.std.proofs.Common.{◌==◌, cond, None, length, sym, ◌∙◌, arith}
use Rattle.cluster_views.proofs.Firsts.{number_first, number_here, number_past}
use Rattle.server_phases.specs.Strange.{coming_at}
use Rattle.server_phases.proofs.looking.next_coming.Goals as goal

pub loop-number-init : goal.loop-number-init
loop-number-init c = number_first _ _

pub loop-number-preserved : goal.loop-number-preserved
loop-number-preserved c =
    let v = c.args.survey.now in
    c.loop-number.invariant
    ∙ number_past (λ n. cond (n == c.args.but) None (coming_at v c.args.slot n)) (length v.rows) c.loop-number.number
    c.of.result c.coming_beside-mark.result (omega arith) c.of.ensures c.coming_beside-mark.ensures c.if-is_some.ensures

pub returns-then-is_some : goal.returns-then-is_some
returns-then-is_some c =
    let v = c.args.survey.now in
    number_here (λ n. cond (n == c.args.but) None (coming_at v c.args.slot n)) (length v.rows) c.loop-number.number
    c.of.result c.coming_beside-mark.result (omega arith) c.of.ensures c.coming_beside-mark.ensures c.if-is_some.ensures
    ∙ sym c.loop-number.invariant
