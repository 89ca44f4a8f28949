use Rattle.std.proofs.Common.{arith}
use Rattle.cluster_views.specs.Naming.{number_at}
use Rattle.cluster_views.proofs.Naming.{next_noted}
use Rattle.cluster_views.proofs.named_book.numbers_of.Goals as goal

pub loop-number-preserved : goal.loop-number-preserved
loop-number-preserved c name =
    next_noted c.args.book.now c.loop-number.number c.of-node.result c.server.result.now c.get.result.now
    (number_at c.loop-number.numbers name) (number_at c.note.new.numbers name) name (omega arith) c.of-node.ensures
    c.server.ensures c.get.ensures.value (c.loop-number.invariant name) (c.in_ok-note.ensures name)
