use Rattle.std.proofs.Common.{◌≡◌, ◌++◌, length}
use Rattle.client_commands.specs.Spelling.{unpaired}
use Rattle.client_commands.proofs.spelling.push_pairs.Given as goal

abbrev pub decreases-loop-rest : goal.decreases-loop-rest
decreases-loop-rest l = length l.rest

-- what is done, with what is still to come, is the whole
abbrev pub invariant-loop-rest : goal.invariant-loop-rest
invariant-loop-rest l = l.words ++ unpaired l.rest ≡ l.initial.words ++ unpaired l.pairs
