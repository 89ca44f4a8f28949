use Rattle.std.proofs.Common.{◌≡◌, ◌++◌, length}
use Rattle.cluster_runs.specs.ShellWords.{quoted}
use Rattle.cluster_runs.proofs.shell_words.put_bytes.Given as goal

-- what was put, and what is left, are the whole
abbrev pub invariant-loop-rest : goal.invariant-loop-rest
invariant-loop-rest l = l.initial.out.items ++ quoted l.word ≡ l.out.items ++ quoted l.rest

abbrev pub decreases-loop-rest : goal.decreases-loop-rest
decreases-loop-rest l = length l.rest
