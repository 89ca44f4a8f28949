use Rattle.std.proofs.Common.{◌≡◌, length}
use Rattle.listed_nodes.specs.SlotWords.{slot_words_in}
use Rattle.listed_nodes.proofs.Reading.{goes_on}
use Rattle.listed_nodes.proofs.slot_word.slot_words_in.Given as goal

-- what was found, and then what the words that are left say
abbrev pub invariant-loop-word : goal.invariant-loop-word
invariant-loop-word l = slot_words_in l.fn.words ≡ goes_on l.found.items (slot_words_in l.words)

abbrev pub decreases-loop-word : goal.decreases-loop-word
decreases-loop-word l = length l.words
