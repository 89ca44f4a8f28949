use Rattle.std.proofs.Common.{◌≡◌, length}
use Rattle.std.specs.List.{list_any}
use Rattle.byte_texts.specs.Parts.{parts}
use Rattle.byte_texts.specs.Words.{is}
use Rattle.listed_nodes.proofs.node_line.has_flag.Given as goal

-- no word before is the flag
abbrev pub invariant-loop-word : goal.invariant-loop-word
invariant-loop-word l = list_any (is l.flag) (parts 44 l.flags) ≡ list_any (is l.flag) l.words

abbrev pub decreases-loop-word : goal.decreases-loop-word
decreases-loop-word l = length l.words
