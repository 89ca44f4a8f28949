-- What a node answers to CLUSTER NODES: a line for each node (the page of CLUSTER NODES).
use Rattle.std.specs.Prelude.{ℕ, ◌+◌, ◌==◌, nat_le, cond, List, [], ◌++◌, Option, None, Some, codes, decimal}
use Rattle.std.specs.List.{flat_map}
use Rattle.std.specs.FinMap as finite
use Rattle.key_slots.specs.Ranges.{owner_ranges}
use Rattle.key_slots.specs.declared.slot_range.SlotRange.{SlotRange}
use Rattle.slot_marks.specs.Tables.{Table}
use Rattle.cluster_node.specs.Redirections.{id_of}
use Rattle.cluster_reports.specs.Numbered.{below}

-- the port of the cluster bus: 10000 above the node's own, or 0 where there is none so high
abbrev pub bus_of : (port : ℕ) → ℕ
bus_of port = cond (nat_le port 55535) (port + 10000) 0

abbrev pub flags_of : (me node : ℕ) → List ℕ
flags_of me n = cond (n == me) (codes " myself,master") (codes " master")

-- `ID 127.0.0.1:7000@17000`
abbrev pub address_words : (port node : ℕ) → List ℕ
address_words port n =
    id_of n ++ (codes " 127.0.0.1:" ++ (decimal port ++ (codes "@" ++ decimal (bus_of port))))

-- ` myself,master - 0 0 1 connected`: a node has no master, and its epoch is its number plus 1
abbrev pub role_words : (me node : ℕ) → List ℕ
role_words me n = flags_of me n ++ (codes " - 0 0 " ++ (decimal (n + 1) ++ codes " connected"))

-- ` 7`, or ` 7-24`
abbrev pub range_word : SlotRange → List ℕ
range_word r = codes " " ++ (decimal r.first ++ cond (r.first == r.last) [] (codes "-" ++ decimal r.last))

-- the range if it is the node's
abbrev pub word_of : (node : ℕ) → SlotRange → List ℕ
word_of n r = cond (r.owner == n) (range_word r) []

-- ` [7->-ID]`, or ` [7-<-ID]`
abbrev pub mark_word : (slot : ℕ) (arrow : List ℕ) (node : ℕ) → List ℕ
mark_word s arrow n = codes " [" ++ (decimal s ++ (arrow ++ (id_of n ++ codes "]")))

-- that the slot goes elsewhere, or else that it comes from elsewhere
abbrev pub mark_of : (slot : ℕ) (migrating importing : Option ℕ) → List ℕ
mark_of s (Some target) importing = mark_word s (codes "->-") target
mark_of s None (Some source) = mark_word s (codes "-<-") source
mark_of s None None = []

abbrev pub slot_mark : Table → (slot : ℕ) → List ℕ
slot_mark t s = mark_of s (finite.get t.migrating s) (finite.get t.importing s)

abbrev pub marks_text : Table → List ℕ
marks_text t = below (slot_mark t) 16384

-- a node shows its own marks, and knows no others
abbrev pub line_marks : Table → (node : ℕ) → List ℕ
line_marks t n = cond (n == t.me) (marks_text t) []

abbrev pub node_line : (base_port : ℕ) → Table → (node : ℕ) → List ℕ
node_line port t n =
    address_words (port + n) n ++ (role_words t.me n
    ++ (flat_map (word_of n) (owner_ranges t.owners) ++ (line_marks t n ++ codes "\n")))

unfoldable pub nodes_text : (base_port : ℕ) → Table → List ℕ
nodes_text port t = below (node_line port t) t.nodes
