-- What stands around the bands: the picture itself, its colours, its heading and the scale of slots.
use Rattle.std.specs.Prelude.{ℕ, ◌+◌, ◌*◌, ◌/◌, ◌%◌, cond, nat_lt, List, [], ◌∷◌, ◌++◌, codes}
use Rattle.std.specs.List.{flat_map}
use Rattle.plan_outlines.specs.declared.nodes.NodeChange.{NodeChange}
use Rattle.plan_drawings.specs.Filling.{filled}
use Rattle.plan_drawings.specs.Words.{summary}
use Rattle.plan_drawings.specs.declared.styles.TheConstants.{STYLE}

-- the picture begins
abbrev pub opening : (height : ℕ) → List ℕ
opening h =
    codes "<svg xmlns=\"http://www.w3.org/2000/svg\" role=\"img\" aria-labelledby=\"title desc\"" ++
    filled (codes " viewBox=\"0 0 1020 %\" width=\"1020\" height=\"%\">\n") (h ∷ h ∷ [])

-- from the ninth node on, a node's colour is hatched
abbrev pub node_rule : (node : ℕ) → List ℕ
node_rule n = cond (nat_lt n 8) [] (filled (codes ".node-%{fill:url(#hatch-%)}\n") (n ∷ n ∷ []))

abbrev pub rule_of : NodeChange → List ℕ
rule_of c = node_rule c.node

-- its colour, and a stripe at an angle of its own
abbrev pub hatching : (node : ℕ) → List ℕ
hatching n =
    filled (codes "<pattern id=\"hatch-%\" width=\"7\" height=\"7\" patternUnits=\"userSpaceOnUse\"") (n ∷ []) ++
    (filled (codes " patternTransform=\"scale(18.2 1) rotate(%)\"><rect class=\"node-%\"")
    ((37 * (n / 8)) ∷ (n % 8) ∷ []) ++
    codes " width=\"7\" height=\"7\"/><path class=\"stripe\" d=\"M0 3H7\"/></pattern>\n")

abbrev pub node_hatching : (node : ℕ) → List ℕ
node_hatching n = cond (nat_lt n 8) [] (hatching n)

abbrev pub hatching_of : NodeChange → List ℕ
hatching_of c = node_hatching c.node

-- the style sheet, and the hatchings that it names
abbrev pub colours : List NodeChange → List ℕ
colours ns =
    codes "<style>\n" ++ (STYLE.now ++ (flat_map rule_of ns ++ (codes "</style>\n" ++ flat_map hatching_of ns)))

-- the paper, and the words above the bands begin
abbrev pub heading_opening : (height : ℕ) → List ℕ
heading_opening h =
    filled (codes "<rect class=\"paper\" width=\"1020\" height=\"%\"/>\n") (h ∷ []) ++
    codes "<text class=\"head\" x=\"90\" y=\"36\">"

-- the paper, and the words above the bands
abbrev pub heading : (height moved rows : ℕ) → List ℕ
heading h m n = heading_opening h ++ (summary m n ++ codes "</text>\n")

-- the bands' picture begins, and has faint lines where the scale has numbers
abbrev pub bands_opening : (height : ℕ) → List ℕ
bands_opening h =
    filled (codes "<svg x=\"90\" y=\"84\" width=\"900\" height=\"%\" viewBox=\"0 0 16384 %\"") (h ∷ h ∷ []) ++
    (codes " preserveAspectRatio=\"none\">\n" ++
    filled (codes "<path class=\"grid\" d=\"M4096 0V%M8192 0V%M12288 0V%\"/>\n") (h ∷ h ∷ h ∷ []))

-- the scale of slots below bands of this height
abbrev pub scale : (height : ℕ) → List ℕ
scale h =
    filled (codes "<g class=\"scale\" transform=\"translate(90 %)\">\n") ((h + 84) ∷ []) ++
    (codes "<path d=\"M0 0v5M225 0v5M450 0v5M675 0v5M900 0v5\"/><text y=\"19\">0</text>" ++
    (codes "<text x=\"225\" y=\"19\">4096</text><text x=\"450\" y=\"19\">8192</text>" ++
    codes "<text x=\"675\" y=\"19\">12288</text><text x=\"900\" y=\"19\">16383</text>\n</g>\n"))
