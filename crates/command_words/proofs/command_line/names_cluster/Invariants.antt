use Rattle.std.proofs.Common.{◌≡◌, drop}
use Rattle.command_words.specs.CommandLine.{names_cluster, texts}
use Rattle.command_words.proofs.command_line.names_cluster.Given as goal

abbrev pub invariant-loop-word : goal.invariant-loop-word
invariant-loop-word l = names_cluster (texts (drop l.word-index l.words)) ≡ names_cluster (texts l.words)
