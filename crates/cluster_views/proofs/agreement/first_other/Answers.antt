use Rattle.std.proofs.Common.{length, sym, ◌∙◌, arith}
use Rattle.cluster_views.specs.Surveying.{other_epoch, view_at}
use Rattle.cluster_views.proofs.Firsts.{number_end, number_first, number_here, number_past}
use Rattle.cluster_views.proofs.Naming.{other_is}
use Rattle.cluster_views.proofs.agreement.first_other.Goals as goal

pub loop-number-init : goal.loop-number-init
loop-number-init c views told own = number_first _ _

pub loop-number-preserved : goal.loop-number-preserved
loop-number-preserved c views told own =
    c.loop-number.invariant views told own
    ∙ number_past (other_epoch c.args.book.now views c.args.at) (length c.args.book.now) c.loop-number.number
    c.of-node.result c.other_epoch-fault.result (omega arith) c.of-node.ensures
    (other_is c.args.book.now views c.args.epochs.now c.args.at c.of-node.result c.from.result c.epoch_told-told.result
    c.other_epoch-fault.result own (omega arith) (omega arith)
    (c.epoch_told-told.ensures (view_at views c.args.at) told) c.other_epoch-fault.ensures) c.if-is_some.ensures

pub returns-then-is_some : goal.returns-then-is_some
returns-then-is_some c views told own =
    number_here (other_epoch c.args.book.now views c.args.at) (length c.args.book.now) c.loop-number.number
    c.of-node.result c.other_epoch-fault.result (omega arith) c.of-node.ensures
    (other_is c.args.book.now views c.args.epochs.now c.args.at c.of-node.result c.from.result c.epoch_told-told.result
    c.other_epoch-fault.result own (omega arith) (omega arith)
    (c.epoch_told-told.ensures (view_at views c.args.at) told) c.other_epoch-fault.ensures) c.if-is_some.ensures
    ∙ sym (c.loop-number.invariant views told own)

pub returns : goal.returns
returns c views told own =
    number_end (other_epoch c.args.book.now views c.args.at) (length c.args.book.now) c.loop-number.number (omega arith)
    ∙ sym (c.loop-number.invariant views told own)
