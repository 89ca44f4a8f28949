use Rattle.cluster_views.specs.Naming.{number_at}
use Rattle.cluster_views.proofs.Naming.{noted, nothing_got}
use Rattle.cluster_views.proofs.named_book.note.Goals as goal

pub returns-in_ok-insert : goal.returns-in_ok-insert
returns-in_ok-insert c =
    noted c.args.numbers.now c.insert.new.self c.in_ok-key.key c.args.node c.args.name.now
    c.in_ok-insert.ensures.entries c.in_ok-key.ensures.items
    (nothing_got c.get.result (number_at c.args.numbers.now c.args.name.now) c.get.ensures.value c.if-is_none.ensures)
