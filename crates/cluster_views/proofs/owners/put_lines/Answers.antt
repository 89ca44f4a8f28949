use Rattle.std.proofs.Common.{take, get_or, None, ap, sym, ◌∙◌, arith}
use Rattle.std.specs.Option.{option_or}
use Rattle.cluster_views.specs.Views.{owner_said, said_by}
use Rattle.cluster_views.proofs.Firsts.{given_more, or_or}
use Rattle.cluster_views.proofs.owners.put_lines.Goals as goal

pub loop-line-preserved : goal.loop-line-preserved
loop-line-preserved c s lt =
    let b = c.args.book.now in
    let before = owner_said b (take c.loop-line.line-index c.args.lines.now) s in
    let here = said_by b s c.line-item.result in
    c.put_line.ensures s lt
    ∙ ap (λ o. option_or o here) (c.loop-line.invariant s lt)
    ∙ or_or (get_or c.args.row.now s None) before here
    ∙ ap (option_or (get_or c.args.row.now s None))
    (sym (given_more (said_by b s) c.args.lines.now c.loop-line.line-index c.line-item.result (omega arith) c.line-item.is))
