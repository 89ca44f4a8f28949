use Rattle.std.proofs.Common.{◌≡◌, ◌+◌, ◌≤◌, length}
use Rattle.survey_texts.specs.Expecting.{goes_on, ids_from, ids_in}
use Rattle.survey_texts.proofs.expecting.ids_in.Given as goal

-- the IDs that the lines before tell, and then those of the others
abbrev pub invariant-loop-line : goal.invariant-loop-line
invariant-loop-line l = record {
  all : ids_in l.text ≡ goes_on l.ids (ids_from (length l.ids) (l.number + 1) l.lines);
  few : length l.ids ≤ 255;
  lines : l.number + length l.lines ≤ length l.text + 1;
}

abbrev pub decreases-loop-line : goal.decreases-loop-line
decreases-loop-line l = length l.lines
