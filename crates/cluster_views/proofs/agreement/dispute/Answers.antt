use Rattle.std.proofs.Common.{sym, ◌∙◌, arith}
use Rattle.cluster_views.specs.Surveying.{dispute_at}
use Rattle.cluster_views.proofs.Firsts.{number_first, number_here, number_past}
use Rattle.cluster_views.proofs.agreement.dispute.Goals as goal

pub loop-number-init : goal.loop-number-init
loop-number-init c = number_first _ _

pub loop-number-preserved : goal.loop-number-preserved
loop-number-preserved c =
    c.loop-number.invariant
    ∙ number_past (dispute_at c.args.survey.now) 16384 c.loop-number.number
    c.of.result c.dispute_at-fault.result (omega arith) c.of.ensures c.dispute_at-fault.ensures c.if-is_some.ensures

pub returns-then-is_some : goal.returns-then-is_some
returns-then-is_some c =
    number_here (dispute_at c.args.survey.now) 16384 c.loop-number.number
    c.of.result c.dispute_at-fault.result (omega arith) c.of.ensures c.dispute_at-fault.ensures c.if-is_some.ensures
    ∙ sym c.loop-number.invariant
