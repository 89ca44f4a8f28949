use Rattle.std.specs.Prelude.{codes}
use Rattle.std.proofs.Common.{◌+◌, ◌*◌}
use Rattle.plan_drawings.specs.Bars.{bar_of, bar_text}
use Rattle.plan_drawings.proofs.Mapped.{texts_of_bars}
use Rattle.plan_drawings.proofs.bars.bars_are_ranges.Goals as goal

pub returns-clause-drawn_before : goal.returns-clause-drawn_before
returns-clause-drawn_before c =
    texts_of_bars (bar_text (codes "before")) (λ r. bar_of r 0 r.before) c.args._ranges.now

pub returns-clause-drawn_after : goal.returns-clause-drawn_after
returns-clause-drawn_after c =
    texts_of_bars (bar_text (codes "after")) (λ r. bar_of r (28 * c.args._rows + 150) r.after) c.args._ranges.now
