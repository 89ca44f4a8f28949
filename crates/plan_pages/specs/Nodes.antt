-- The second section: what each node has before the plan and after it.
use Rattle.std.specs.Prelude.{ℕ, Bool, ◌*◌, ◌/◌, ◌%◌, ◌==◌, ◌&&◌, nat_lt, List, [], ◌∷◌, ◌++◌, cond, codes, decimal}
use Rattle.std.specs.List.{flat_map}
use Rattle.plan_outlines.specs.declared.nodes.NodeChange.{NodeChange}
use Rattle.plan_pages.specs.Words.{left, node_text, right}

-- an empty line, and the names of the columns
unfoldable pub nodes_heading : List ℕ
nodes_heading = codes "\nnodes                     before               after\n"

-- `33.33 %`, of hundredths of a per cent
unfoldable pub percent_column : (hundredths : ℕ) → List ℕ
percent_column h =
    right 5 (decimal (h / 100)) ++ (46 ∷ decimal (h / 10 % 10) ++ (decimal (h % 10) ++ codes " %"))

-- the share of all slots, rounded down
abbrev pub share_column : (slots : ℕ) → List ℕ
share_column n = percent_column (n * 10000 / 16384)

-- `  n0              5461   33.33 %      4778   29.16 %`
unfoldable pub node_row : NodeChange → List ℕ
node_row c = codes "  " ++ (left 8 (node_text c.node) ++ (right 12 (decimal c.before) ++ (share_column c.before
    ++ (right 10 (decimal c.after) ++ (share_column c.after ++ 10 ∷ [])))))

unfoldable pub loses_words : List ℕ
loses_words = codes " loses its last slot: its replicas may follow another master, and it may\nbecome a replica.\n"

-- it has slots before the plan, and none after it
abbrev pub is_emptied : NodeChange → Bool
is_emptied c = nat_lt 0 c.before && c.after == 0

-- what the node has to expect, if it is emptied
unfoldable pub loses_line : NodeChange → List ℕ
loses_line c = cond (is_emptied c) (node_text c.node ++ loses_words) []

abbrev pub nodes_section : List NodeChange → List ℕ
nodes_section cs = nodes_heading ++ (flat_map node_row cs ++ flat_map loses_line cs)
