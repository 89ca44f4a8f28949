-- The text that a node in memory tells on CLUSTER NODES is read as its table. Claimed: the reader finds one line for
-- each node, in order, and nothing else. A line has its node's ID, address and epoch; it is a sound master's, whose
-- link is connected, and `myself` at the node that tells; its ranges are the longest ranges of the slots that the table
-- gives to the node; and the line of the node that tells has the table's marks, of which only the migrating one is told
-- where a slot has both. So the reader knows of each slot its owner and whether and where it moves.
use Rattle.std.specs.Prelude.{◌≡◌, ◌↔◌, ℕ, ◌+◌, ◌<◌, ◌≤◌, true, false, List, length, None, Some, slice_index}
use Rattle.std.specs.Prelude.{slice_index_or}
use Rattle.std.specs.FinMap as finite
use Rattle.std.specs.List.{Contains}
use Rattle.slot_marks.specs.Tables.{Marks, Table}
use Rattle.cluster_node.specs.Redirections.{id_of, ip}
use Rattle.cluster_reports.specs.NodeLines.{nodes_text}
use Rattle.listed_nodes.specs.Nodes.{nodes_of_text}
use Rattle.listed_nodes.specs.declared.node_line.NodeLine.{NodeLine}
use Rattle.listed_nodes.specs.declared.slot_word.SlotWord.TheVariants.{Slots, Migrating, Importing}
use Rattle.told_nodes.specs.Tables.{IsToldFrom}
use Rattle.told_nodes.specs.ToldLines.{lines_told}

-- ---- what is read, whole

abbrev pub NodesAreRead : Type 0
NodesAreRead = (base_port : ℕ) (t : Table) → IsToldFrom base_port t
    → nodes_of_text (nodes_text base_port t) ≡ Some (lines_told base_port t)

-- ---- the same, of each slot

-- the line gives the slot to its node
abbrev pub Owns : NodeLine → (slot : ℕ) → Type 0
Owns l s = (first last : ℕ) × Contains l.slots (Slots first last) × (first ≤ s) × (s ≤ last)

-- the slot has a mark, of the node with this ID
abbrev pub Marked : Marks → (slot : ℕ) → (name : List ℕ) → Type 0
Marked m s name = (n : ℕ) × (finite.get m s ≡ Some n) × (name ≡ id_of n)

-- the line says of the node what the table does: of each slot whether the node owns it, and of the node that tells
-- which slots have a mark, and whose ID the mark has
pub record IsLineOf (base_port : ℕ) (t : Table) (node : ℕ) (l : NodeLine) : Type 0 where
  pub name : l.name ≡ id_of node
  pub host : l.host ≡ ip
  pub port : l.port ≡ base_port + node
  pub myself : (l.is_myself ≡ true) ↔ (node ≡ t.me)
  pub master : l.is_master ≡ true
  pub failing : l.is_failing ≡ false
  pub failed : l.has_failed ≡ false
  pub linked : l.is_linked ≡ true
  pub epoch : l.epoch ≡ node + 1
  pub owns : (s : ℕ) → s < 16384 → Owns l s ↔ (slice_index t.owners s ≡ node)
  pub migrating : (s : ℕ) (name : List ℕ) → Contains l.slots (Migrating s name)
      ↔ ((node ≡ t.me) × (s < 16384) × Marked t.migrating s name)
  pub importing : (s : ℕ) (name : List ℕ) → Contains l.slots (Importing s name)
      ↔ ((node ≡ t.me) × (s < 16384) × (finite.get t.migrating s ≡ None) × Marked t.importing s name)

-- whatever lines are read, these are they: one for each node, by its number
abbrev pub LinesAreTheTable : Type 0
LinesAreTheTable = (base_port : ℕ) (t : Table) (ls : List NodeLine) → IsToldFrom base_port t
    → nodes_of_text (nodes_text base_port t) ≡ Some ls
    → (length ls ≡ t.nodes)
    × ((n : ℕ) (d : NodeLine) → n < t.nodes → IsLineOf base_port t n (slice_index_or ls n d))

-- an ID is that of one node, so lines and marks name nodes
abbrev pub IdsAreDistinct : Type 0
IdsAreDistinct = (n m : ℕ) → n < 256 → m < 256 → id_of n ≡ id_of m → n ≡ m
