use Rattle.std.proofs.Common.{◌≡◌, ◌+◌, ◌≤◌, length}
use Rattle.survey_files.specs.Reading.{lines_told, told_by, told_in}
use Rattle.survey_files.proofs.survey.reading_of.Given as goal

-- the lines that are left, after what those before told
abbrev pub invariant-loop-line : goal.invariant-loop-line
invariant-loop-line l = record {
  all : told_in l.text ≡ lines_told (l.number + 1) l.lines (told_by l.reading);
  lines : l.number + length l.lines ≤ length l.text + 1;
}

abbrev pub decreases-loop-line : goal.decreases-loop-line
decreases-loop-line l = length l.lines
