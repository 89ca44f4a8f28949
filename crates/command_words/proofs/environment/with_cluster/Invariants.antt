use Rattle.std.proofs.Common.{◌≡◌, ◌++◌, drop}
use Rattle.command_words.specs.CommandLine.{texts}
use Rattle.command_words.proofs.environment.with_cluster.Given as goal

abbrev pub invariant-loop-word : goal.invariant-loop-word
invariant-loop-word l = texts l.all.items ++ texts (drop l.word-index l.words) ≡ texts l.fn.words
