use Rattle.std.proofs.Common.{take, get_or, None, ap, sym, ◌∙◌, arith}
use Rattle.std.specs.Option.{option_or}
use Rattle.cluster_views.specs.Naming.{told_by}
use Rattle.cluster_views.specs.Numbers.{first_given}
use Rattle.cluster_views.proofs.Firsts.{given_more, or_or}
use Rattle.cluster_views.proofs.told_epochs.put_lines.Goals as goal

pub loop-line-preserved : goal.loop-line-preserved
loop-line-preserved c k lt =
    let b = c.args.book.now in
    let before = first_given (told_by b k) (take c.loop-line.line-index c.args.lines.now) in
    let here = told_by b k c.line-item.result in
    c.put_line.ensures k lt
    ∙ ap (λ o. option_or o here) (c.loop-line.invariant k lt)
    ∙ or_or (get_or c.args.row.now k None) before here
    ∙ ap (option_or (get_or c.args.row.now k None))
    (sym (given_more (told_by b k) c.args.lines.now c.loop-line.line-index c.line-item.result (omega arith)
    c.line-item.is))
