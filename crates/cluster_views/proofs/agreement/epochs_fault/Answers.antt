use Rattle.std.proofs.Common.{length, sym, ◌∙◌, arith}
use Rattle.cluster_views.specs.Surveying.{other_epoch_at}
use Rattle.cluster_views.proofs.Firsts.{number_first, number_here, number_past}
use Rattle.cluster_views.proofs.agreement.epochs_fault.Goals as goal

pub loop-number-init : goal.loop-number-init
loop-number-init c = number_first _ _

pub loop-number-preserved : goal.loop-number-preserved
loop-number-preserved c =
    c.loop-number.invariant
    ∙ number_past (other_epoch_at c.args.book.now c.args.views.now) (length c.args.book.now) c.loop-number.number
    c.of.result c.in_ok-fault.fault (omega arith) c.of.ensures c.in_ok-fault.ensures c.if-is_some.ensures

pub returns-then-is_some : goal.returns-then-is_some
returns-then-is_some c =
    number_here (other_epoch_at c.args.book.now c.args.views.now) (length c.args.book.now) c.loop-number.number
    c.of.result c.in_ok-fault.fault (omega arith) c.of.ensures c.in_ok-fault.ensures c.if-is_some.ensures
    ∙ sym c.loop-number.invariant
