use Rattle.std.proofs.Common.{◌≡◌, length}
use Rattle.byte_texts.specs.Parts.{parts}
use Rattle.server_settling.specs.Clients.{value_of}
use Rattle.server_settling.proofs.client_list.value_of.Given as goal

-- no word before begins so
abbrev pub invariant-loop-word : goal.invariant-loop-word
invariant-loop-word l = value_of l.start (parts 32 l.line) ≡ value_of l.start l.words

abbrev pub decreases-loop-word : goal.decreases-loop-word
decreases-loop-word l = length l.words
