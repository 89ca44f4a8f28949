use Rattle.std.proofs.Common.{length, sym, ◌∙◌, arith}
use Rattle.cluster_views.specs.Surveying.{has_mark}
use Rattle.cluster_views.proofs.Firsts.{any_first, any_here, any_past}
use Rattle.cluster_views.proofs.agreement.is_marked.Goals as goal

pub loop-number-init : goal.loop-number-init
loop-number-init c = any_first (has_mark c.args.survey.now c.args.slot) (length c.args.survey.now.rows)

pub loop-number-preserved : goal.loop-number-preserved
loop-number-preserved c =
    c.loop-number.invariant
    ∙ any_past (has_mark c.args.survey.now c.args.slot) (length c.args.survey.now.rows) c.loop-number.number c.of.result
    c.has_mark.result (omega arith) c.of.ensures c.has_mark.ensures c.if-has_mark.false

pub returns-then-has_mark : goal.returns-then-has_mark
returns-then-has_mark c =
    any_here (has_mark c.args.survey.now c.args.slot) (length c.args.survey.now.rows) c.loop-number.number c.of.result
    c.has_mark.result (omega arith) c.of.ensures c.has_mark.ensures c.if-has_mark.true
    ∙ sym c.loop-number.invariant
