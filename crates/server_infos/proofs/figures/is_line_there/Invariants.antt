use Rattle.std.proofs.Common.{◌≡◌, length}
use Rattle.byte_texts.specs.Parts.{parts}
use Rattle.server_infos.specs.Figures.{is_line_there}
use Rattle.server_infos.proofs.figures.is_line_there.Given as goal

-- what is left tells the same as the whole
abbrev pub invariant-loop-line : goal.invariant-loop-line
invariant-loop-line l = is_line_there l.wanted (parts 10 l.text) ≡ is_line_there l.wanted l.lines

abbrev pub decreases-loop-line : goal.decreases-loop-line
decreases-loop-line l = length l.lines
