use Rattle.std.proofs.Common.{◌≡◌, drop}
use Rattle.command_words.specs.CommandLine.{names_survey, texts}
use Rattle.command_words.proofs.command_line.names_survey.Given as goal

abbrev pub invariant-loop-word : goal.invariant-loop-word
invariant-loop-word l = names_survey (texts (drop l.word-index l.words)) ≡ names_survey (texts l.words)
