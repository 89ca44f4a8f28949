use Rattle.std.proofs.Common.{length, sym, ◌∙◌, arith}
use Rattle.cluster_views.specs.Views.{unaware_fault}
use Rattle.cluster_views.proofs.Firsts.{number_end, number_first, number_here, number_past}
use Rattle.cluster_views.proofs.Naming.{unaware_is}
use Rattle.cluster_views.proofs.knowing.first_unaware.Goals as goal

pub loop-number-init : goal.loop-number-init
loop-number-init c ls told = number_first _ _

pub loop-number-preserved : goal.loop-number-preserved
loop-number-preserved c ls told =
    c.loop-number.invariant ls told
    ∙ number_past (unaware_fault c.args.book.now c.args.at ls) (length c.args.book.now) c.loop-number.number
    c.of-node.result c.unaware_of-fault.result (omega arith) c.of-node.ensures
    (unaware_is c.args.book.now c.args.at c.of-node.result ls c.epoch_told.result c.unaware_of-fault.result
    (c.epoch_told.ensures ls told) c.unaware_of-fault.ensures) c.if-is_some.ensures

pub returns-then-is_some : goal.returns-then-is_some
returns-then-is_some c ls told =
    number_here (unaware_fault c.args.book.now c.args.at ls) (length c.args.book.now) c.loop-number.number
    c.of-node.result c.unaware_of-fault.result (omega arith) c.of-node.ensures
    (unaware_is c.args.book.now c.args.at c.of-node.result ls c.epoch_told.result c.unaware_of-fault.result
    (c.epoch_told.ensures ls told) c.unaware_of-fault.ensures) c.if-is_some.ensures
    ∙ sym (c.loop-number.invariant ls told)

pub returns : goal.returns
returns c ls told =
    number_end (unaware_fault c.args.book.now c.args.at ls) (length c.args.book.now) c.loop-number.number (omega arith)
    ∙ sym (c.loop-number.invariant ls told)
