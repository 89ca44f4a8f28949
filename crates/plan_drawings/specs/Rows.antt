-- The nodes' rows: empty bands, and what stands beside them.
use Rattle.std.specs.Prelude.{ℕ, ◌+◌, ◌*◌, List, [], ◌∷◌, ◌++◌, codes}
use Rattle.std.specs.List.{flat_map}
use Rattle.plan_outlines.specs.declared.nodes.NodeChange.{NodeChange}
use Rattle.plan_drawings.specs.Filling.{filled}

-- an empty band of the half whose upper edge is this one
abbrev pub band : (top : ℕ) → NodeChange → List ℕ
band top c = filled (codes "<rect class=\"band\" y=\"%\" width=\"16384\" height=\"22\"/>\n") ((top + 28 * c.node) ∷ [])

-- a node's name and its slots
abbrev pub name_at : (y node slots : ℕ) → List ℕ
name_at y n s =
    filled (codes "<text y=\"%\"><tspan class=\"node\" x=\"14\">n%</tspan>&#160; ") (y ∷ n ∷ []) ++
    filled (codes "<tspan class=\"slots\" x=\"80\">%</tspan></text>\n") (s ∷ [])

-- beside its band in the half whose upper edge is this one
abbrev pub name : (top node slots : ℕ) → List ℕ
name top n s =
    name_at ((top + 28 * n) + 99) n s

abbrev pub upper_name : NodeChange → List ℕ
upper_name c = name 0 c.node c.before

abbrev pub lower_name : (rows : ℕ) → NodeChange → List ℕ
lower_name n c = name (28 * n + 150) c.node c.after

-- the word beside a half, above its first row
abbrev pub half_word : (y : ℕ) (word : List ℕ) → List ℕ
half_word y word = filled (codes "<text class=\"half\" x=\"80\" y=\"%\">") (y ∷ []) ++ (word ++ codes "</text>\n")

-- what stands beside the rows before the plan
abbrev pub upper_names : List NodeChange → List ℕ
upper_names ns = half_word 76 (codes "before") ++ flat_map upper_name ns

-- and beside those after it
abbrev pub lower_names : (rows : ℕ) → List NodeChange → List ℕ
lower_names n ns = half_word (28 * n + 226) (codes "after") ++ flat_map (lower_name n) ns
