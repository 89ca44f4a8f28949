use Rattle.std.proofs.Common.{◌≡◌, length}
use Rattle.byte_texts.specs.Parts.{parts}
use Rattle.server_settling.specs.Clients.{are_pairs}
use Rattle.server_settling.proofs.client_list.are_pairs.Given as goal

-- each word before has a `=`
abbrev pub invariant-loop-word : goal.invariant-loop-word
invariant-loop-word l = are_pairs (parts 32 l.line) ≡ are_pairs l.words

abbrev pub decreases-loop-word : goal.decreases-loop-word
decreases-loop-word l = length l.words
