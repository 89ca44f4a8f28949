-- The picture of a plan.
use Rattle.std.specs.Prelude.{ℕ, ◌+◌, ◌*◌, List, ◌++◌, codes}
use Rattle.std.specs.List.{flat_map}
use Rattle.plan_outlines.specs.declared.nodes.NodeChange.{NodeChange}
use Rattle.plan_outlines.specs.declared.outline.PlanOutline.{PlanOutline}
use Rattle.plan_outlines.specs.declared.pairs.PairChange.{PairChange}
use Rattle.plan_outlines.specs.declared.ranges.RangeChange.{RangeChange}
use Rattle.plan_drawings.specs.Bars.{lower_bar, ribbon, ribbon_count, upper_bar}
use Rattle.plan_drawings.specs.Frames.{bands_opening, colours, heading, opening, scale}
use Rattle.plan_drawings.specs.Layouts.{bands_height, line_count, moved, row_count, whole_height}
use Rattle.plan_drawings.specs.Legends.{legend}
use Rattle.plan_drawings.specs.Rows.{band, lower_names, upper_names}
use Rattle.plan_drawings.specs.Words.{naming}

-- the empty bands of both halves
abbrev pub empty_bands : (rows : ℕ) → List NodeChange → List ℕ
empty_bands n ns = flat_map (band 0) ns ++ flat_map (band (28 * n + 150)) ns

-- the ribbons, and the bars over them
abbrev pub ranges_text : (rows : ℕ) → List RangeChange → List ℕ
ranges_text n rs = flat_map (ribbon n) rs ++ (flat_map upper_bar rs ++ flat_map (lower_bar n) rs)

-- the bands, with the ribbons under the bars
abbrev pub bands : (rows : ℕ) → List RangeChange → List NodeChange → List ℕ
bands n rs ns =
    bands_opening (bands_height n) ++ (empty_bands n ns ++ (ranges_text n rs ++ codes "</svg>\n"))

-- what stands beside the bands and on the ribbons
abbrev pub labels : (rows : ℕ) → List RangeChange → List NodeChange → List ℕ
labels n rs ns =
    upper_names ns ++ (lower_names n ns ++ (flat_map (ribbon_count n) rs ++ scale (bands_height n)))

-- all that stands before the bands
abbrev pub front : (rows height moved : ℕ) → List NodeChange → List PairChange → List ℕ
front n h m ns ps = opening h ++ (naming m n ns ps ++ (colours ns ++ heading h m n))

-- the parts, one after the other
unfoldable pub parts : (rows height moved : ℕ) → List RangeChange → List NodeChange → List PairChange → List ℕ
parts n h m rs ns ps =
    front n h m ns ps ++ (bands n rs ns ++ (labels n rs ns ++ (legend n ps ++ codes "</svg>\n")))

-- by the ranges, the nodes and the pairs
abbrev pub drawn : List RangeChange → List NodeChange → List PairChange → List ℕ
drawn rs ns ps = parts (row_count ns) (whole_height (row_count ns) (line_count ps)) (moved rs) rs ns ps

-- the picture of a plan
abbrev pub drawing_text : PlanOutline → List ℕ
drawing_text o = drawn o.ranges.items o.nodes.items o.pairs.items
