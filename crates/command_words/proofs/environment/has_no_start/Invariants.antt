use Rattle.std.proofs.Common.{◌≡◌, drop}
use Rattle.command_words.specs.CommandLine.{texts}
use Rattle.command_words.specs.Environment.{has_no_start}
use Rattle.command_words.proofs.environment.has_no_start.Given as goal

abbrev pub invariant-loop-word : goal.invariant-loop-word
invariant-loop-word l = has_no_start (texts (drop l.word-index l.words)) ≡ has_no_start (texts l.words)
