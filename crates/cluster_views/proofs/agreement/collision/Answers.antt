use Rattle.std.proofs.Common.{length, sym, ◌∙◌, arith}
use Rattle.cluster_views.specs.Surveying.{same_epoch_as}
use Rattle.cluster_views.proofs.Firsts.{number_end, number_first, number_here, number_past}
use Rattle.cluster_views.proofs.agreement.collision.Goals as goal

pub loop-number-init : goal.loop-number-init
loop-number-init c views own = number_first _ _

pub loop-number-preserved : goal.loop-number-preserved
loop-number-preserved c views own =
    c.loop-number.invariant views own
    ∙ number_past (same_epoch_as c.args.book.now views) (length c.args.book.now) c.loop-number.number
    c.of.result c.same_epoch_as-fault.result (omega arith) c.of.ensures (c.same_epoch_as-fault.ensures views own)
    c.if-is_some.ensures

pub returns-then-is_some : goal.returns-then-is_some
returns-then-is_some c views own =
    number_here (same_epoch_as c.args.book.now views) (length c.args.book.now) c.loop-number.number
    c.of.result c.same_epoch_as-fault.result (omega arith) c.of.ensures (c.same_epoch_as-fault.ensures views own)
    c.if-is_some.ensures
    ∙ sym (c.loop-number.invariant views own)

pub returns : goal.returns
returns c views own =
    number_end (same_epoch_as c.args.book.now views) (length c.args.book.now) c.loop-number.number (omega arith)
    ∙ sym (c.loop-number.invariant views own)
