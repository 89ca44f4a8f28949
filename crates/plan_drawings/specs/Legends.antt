-- The pairs of nodes between which slots move, below the picture.
use Rattle.std.specs.Prelude.{ℕ, ◌+◌, ◌*◌, ◌==◌, cond, List, [], ◌∷◌, ◌++◌, codes}
use Rattle.std.specs.List.{flat_map}
use Rattle.plan_outlines.specs.declared.pairs.PairChange.{PairChange}
use Rattle.plan_drawings.specs.Filling.{filled}

-- the places of two nodes, and of what moves between them
abbrev pub line_form : (slots : ℕ) → List ℕ
line_form k =
    cond (k == 1) (codes "<tspan x=\"110\">n% &#8594; n%&#160; % slot</tspan>\n")
    (codes "<tspan x=\"110\">n% &#8594; n%&#160; % slots</tspan>\n")

-- `n0 → n2  683 slots`, after a square in the colour of the source
abbrev pub pair_text : (source target slots : ℕ) → List ℕ
pair_text s t k =
    filled (codes "<tspan class=\"node-%\" x=\"90\" dy=\"22\">&#9632;</tspan>") (s ∷ []) ++
    filled (line_form k) (s ∷ t ∷ k ∷ [])

abbrev pub pair_line : PairChange → List ℕ
pair_line p = pair_text p.source p.target p.slots

-- a line for each pair, below this many rows in both halves
abbrev pub legend : (rows : ℕ) → List PairChange → List ℕ
legend n ps =
    filled (codes "<text class=\"legend\" y=\"%\">\n") ((56 * n + 280) ∷ []) ++
    (flat_map pair_line ps ++ codes "</text>\n")
