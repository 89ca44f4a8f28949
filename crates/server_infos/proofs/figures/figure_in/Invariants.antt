use Rattle.std.proofs.Common.{◌≡◌, length}
use Rattle.byte_texts.specs.Parts.{parts}
use Rattle.server_infos.specs.Figures.{figure_in}
use Rattle.server_infos.proofs.figures.figure_in.Given as goal

-- what is left tells the same as the whole
abbrev pub invariant-loop-line : goal.invariant-loop-line
invariant-loop-line l = figure_in l.name l.end (parts 10 l.text) ≡ figure_in l.name l.end l.lines

abbrev pub decreases-loop-line : goal.decreases-loop-line
decreases-loop-line l = length l.lines
