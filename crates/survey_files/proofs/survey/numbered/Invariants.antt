use Rattle.std.proofs.Common.{◌≡◌, drop}
use Rattle.survey_files.specs.Numbering.{numbered}
use Rattle.survey_files.specs.Reading.{told_by}
use Rattle.survey_files.proofs.survey.numbered.Given as goal

-- the names that are left, after those before became nodes
abbrev pub invariant-loop-named : goal.invariant-loop-named
invariant-loop-named l =
    numbered l.names (told_by l.initial.reading) ≡ numbered (drop l.named-index l.names) (told_by l.reading)
