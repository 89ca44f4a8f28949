-- The marks that a server tells of itself (the page of CLUSTER NODES): at Valkey a replica tells those of its master.
use Rattle.std.specs.Prelude.{ℕ, Bool, false, ◌&&◌, ◌==◌, List}
use Rattle.std.specs.List.{list_any}
use Rattle.listed_nodes.specs.declared.node_line.NodeLine.{NodeLine}
use Rattle.listed_nodes.specs.declared.slot_word.SlotWord.{SlotWord}
use Rattle.listed_nodes.specs.declared.slot_word.SlotWord.TheVariants as word

abbrev pub marks : (slot : ℕ) → SlotWord → Bool
marks s (word.Slots first last) = false
marks s (word.Migrating marked name) = marked == s
marks s (word.Importing marked name) = marked == s

abbrev pub is_marked : (slot : ℕ) → List SlotWord → Bool
is_marked s words = list_any (marks s) words

-- it is the line of the server itself, with a mark of the slot
abbrev pub marks_own : (slot : ℕ) → NodeLine → Bool
marks_own s l = l.is_myself && is_marked s l.slots

abbrev pub shows_mark : (slot : ℕ) → List NodeLine → Bool
shows_mark s lines = list_any (marks_own s) lines
