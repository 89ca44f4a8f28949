use Rattle.std.proofs.Common.{◌∙◌}
use Rattle.cluster_views.proofs.Naming.{no_number, read_told}
use Rattle.cluster_views.proofs.told_epochs.epoch_told.Goals as goal

pub returns-in_err-first : goal.returns-in_err-first
returns-in_err-first c ls told =
    absurd (no_number c.args.book.now c.args.node c.server.result.now c.get.result.now c.requires.node c.server.ensures
    c.get.ensures.value c.in_err-first.ensures.value)

pub returns : goal.returns
returns c ls told =
    read_told c.args.book.now c.args.node c.in_ok-first.first c.from.result c.server.result.now c.get.result.now ls
    c.args.row.now told c.server.ensures c.get.ensures.value c.in_ok-first.ensures.value
    (c.from.ensures ∙ c.get-2.ensures.value)
