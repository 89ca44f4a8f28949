use Rattle.std.proofs.Common.{length, sym, ◌∙◌, arith}
use Rattle.cluster_views.proofs.Firsts.{number_end, number_first, number_here, number_past}
use Rattle.node_forgetting.specs.Holding.{hold_at}
use Rattle.node_forgetting.proofs.holding.hold_by.Goals as goal

pub loop-number-init : goal.loop-number-init
loop-number-init c = number_first (hold_at c.args.survey.now c.args.node c.args.at) 16384

pub loop-number-preserved : goal.loop-number-preserved
loop-number-preserved c =
    c.loop-number.invariant
    ∙ number_past (hold_at c.args.survey.now c.args.node c.args.at) 16384 c.loop-number.number
    c.of.result c.hold_at-found.result (omega arith) c.of.ensures c.hold_at-found.ensures c.if-is_some.ensures

pub returns-then-is_some : goal.returns-then-is_some
returns-then-is_some c =
    number_here (hold_at c.args.survey.now c.args.node c.args.at) 16384 c.loop-number.number
    c.of.result c.hold_at-found.result (omega arith) c.of.ensures c.hold_at-found.ensures c.if-is_some.ensures
    ∙ sym c.loop-number.invariant
