use Rattle.std.proofs.Common.{◌≡◌, length}
use Rattle.byte_texts.specs.Parts.{are_words}
use Rattle.byte_texts.proofs.parts.Parts.are_words.Given as goal

-- the parts before this one are words
abbrev pub invariant-loop-word : goal.invariant-loop-word
invariant-loop-word l = are_words l.fn.self ≡ are_words l.self

abbrev pub decreases-loop-word : goal.decreases-loop-word
decreases-loop-word l = length l.self
