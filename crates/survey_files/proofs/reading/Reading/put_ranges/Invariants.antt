use Rattle.std.proofs.Common.{◌≡◌, length}
use Rattle.survey_files.specs.Reading.{ranges_told, told_by}
use Rattle.survey_files.proofs.reading.Reading.put_ranges.Given as goal

-- the words that are left, after what was told of those before
abbrev pub invariant-loop-word : goal.invariant-loop-word
invariant-loop-word l =
    ranges_told l.line l.initial.left (told_by l.initial.self) ≡ ranges_told l.line l.left (told_by l.self)

abbrev pub decreases-loop-word : goal.decreases-loop-word
decreases-loop-word l = length l.left
