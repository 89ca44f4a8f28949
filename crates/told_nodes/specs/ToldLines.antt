-- What a reader of CLUSTER NODES is told of a node's table: a line for each node. `specs/Reading` claims that this is
-- what is read.
use Rattle.std.specs.Prelude.{ℕ, ◌+◌, true, false, cond, ◌==◌, List, [], ◌∷◌, ◌++◌, Option, None, Some, filter, map}
use Rattle.std.specs.FinMap as finite
use Rattle.key_slots.specs.Ranges.{owner_ranges}
use Rattle.key_slots.specs.declared.slot_range.SlotRange.{SlotRange}
use Rattle.slot_marks.specs.Tables.{Table}
use Rattle.cluster_node.specs.Redirections.{id_of, ip}
use Rattle.cluster_reports.specs.Numbered.{below}
use Rattle.listed_nodes.specs.declared.node_line.NodeLine.{NodeLine}
use Rattle.listed_nodes.specs.declared.slot_word.SlotWord.{SlotWord}
use Rattle.listed_nodes.specs.declared.slot_word.SlotWord.TheVariants.{Slots, Migrating, Importing}

-- from the first slot to the last
abbrev pub slots_of : SlotRange → SlotWord
slots_of r = Slots r.first r.last

-- the longest ranges of slots that the node owns, ascending
abbrev pub ranges_told : (owners : List ℕ) (node : ℕ) → List SlotWord
ranges_told owners n = map slots_of (filter (λ r. r.owner == n) (owner_ranges owners))

-- the slot's mark: where it goes to, or else where it comes from, so that of two marks one is told
abbrev pub mark_told : (slot : ℕ) (migrating importing : Option ℕ) → List SlotWord
mark_told s (Some target) importing = Migrating s (id_of target) ∷ []
mark_told s None (Some source) = Importing s (id_of source) ∷ []
mark_told s None None = []

abbrev pub slot_mark_told : Table → (slot : ℕ) → List SlotWord
slot_mark_told t s = mark_told s (finite.get t.migrating s) (finite.get t.importing s)

-- the line of the node itself has the table's marks, by ascending slots, and no other line has any
abbrev pub marks_told : Table → (node : ℕ) → List SlotWord
marks_told t n = cond (n == t.me) (below (slot_mark_told t) 16384) []

-- a sound master whose link is connected, with its ID, address and epoch; `myself` at the node itself
abbrev pub line_told : (base_port : ℕ) → Table → (node : ℕ) → NodeLine
line_told port t n = record {
  name = id_of n;
  host = ip;
  port = port + n;
  is_myself = n == t.me;
  is_master = true;
  is_failing = false;
  has_failed = false;
  is_linked = true;
  epoch = n + 1;
  slots = ranges_told t.owners n ++ marks_told t n;
}

-- one line for each node, in order
abbrev pub lines_told : (base_port : ℕ) → Table → List NodeLine
lines_told port t = below (λ n. line_told port t n ∷ []) t.nodes
