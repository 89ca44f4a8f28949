-- The bars: each range in the band of its owner.
use Rattle.std.specs.Prelude.{ℕ, ◌+◌, ◌*◌, cond, ◌==◌, nat_lt, List, [], ◌∷◌, ◌++◌, codes, map}
use Rattle.plan_outlines.specs.declared.ranges.RangeChange.{RangeChange}
use Rattle.plan_drawings.specs.Filling.{filled}
use Rattle.plan_drawings.specs.Layouts.{lower_y, middle_x, slots_in, upper_y}
use Rattle.plan_drawings.specs.declared.bars.Bar.{Bar}
use Rattle.plan_drawings.specs.declared.ribbons.Ribbon.{Ribbon}

-- the range, in a node's row of the half whose upper edge is this one
abbrev pub bar_of : RangeChange → (top row : ℕ) → Bar
bar_of r top n = record { first = r.first; last = r.last; width = slots_in r; row = n; y = top + 28 * n }

abbrev pub bar_width : Bar → ℕ
bar_width b = b.width

-- the bars before the plan
abbrev pub bars_before : List RangeChange → List Bar
bars_before rs = map (λ r. bar_of r 0 r.before) rs

-- the bars after it
abbrev pub bars_after : (rows : ℕ) → List RangeChange → List Bar
bars_after n rs = map (λ r. bar_of r (28 * n + 150) r.after) rs

-- a bar of the half with this name
abbrev pub bar_text : (half : List ℕ) → Bar → List ℕ
bar_text half b =
    filled (codes "<rect class=\"node-%\" x=\"%\" y=\"%\" width=\"%\" height=\"22\"")
    (b.row ∷ b.first ∷ b.y ∷ b.width ∷ []) ++
    (filled (codes " data-node=\"n%\" data-first=\"%\" data-last=\"%\" data-when=\"") (b.row ∷ b.first ∷ b.last ∷ []) ++
    (half ++
    filled (codes "\"><title>n%: slots %-% (%)</title></rect>\n") (b.row ∷ b.first ∷ b.last ∷ b.width ∷ [])))

-- a range's bar before the plan
abbrev pub upper_bar : RangeChange → List ℕ
upper_bar r = bar_text (codes "before") (bar_of r 0 r.before)

-- and after it
abbrev pub lower_bar : (rows : ℕ) → RangeChange → List ℕ
lower_bar n r = bar_text (codes "after") (bar_of r (28 * n + 150) r.after)

-- from the range's bar before the plan to the one after it
abbrev pub ribbon_of : (rows : ℕ) → RangeChange → Ribbon
ribbon_of n r = record {
  source = r.before;
  target = r.after;
  first = r.first;
  last = r.last;
  end = r.last + 1;
  slots = slots_in r;
  upper = upper_y r.before + 22;
  lower = lower_y n r.after;
}

-- a ribbon
abbrev pub ribbon_text : Ribbon → List ℕ
ribbon_text b =
    filled (codes "<path class=\"ribbon node-%\" d=\"M% %H%V%H%Z\"")
    (b.source ∷ b.first ∷ b.upper ∷ b.end ∷ b.lower ∷ b.first ∷ []) ++
    (filled (codes " data-source=\"n%\" data-target=\"n%\" data-first=\"%\" data-last=\"%\">")
    (b.source ∷ b.target ∷ b.first ∷ b.last ∷ []) ++
    filled (codes "<title>n% to n%: slots %-% (%)</title></path>\n")
    (b.source ∷ b.target ∷ b.first ∷ b.last ∷ b.slots ∷ []))

-- where the range gets another owner
abbrev pub ribbon : (rows : ℕ) → RangeChange → List ℕ
ribbon n r = cond (r.before == r.after) [] (ribbon_text (ribbon_of n r))

-- the ribbon's number of slots, where there is room for it
abbrev pub count_text : (rows : ℕ) → RangeChange → List ℕ
count_text n r =
    cond (nat_lt (slots_in r) 400) []
    (filled (codes "<text class=\"count\" x=\"%\" y=\"%\">%</text>\n") (middle_x r ∷ (28 * n + 160) ∷ slots_in r ∷ []))

abbrev pub ribbon_count : (rows : ℕ) → RangeChange → List ℕ
ribbon_count n r = cond (r.before == r.after) [] (count_text n r)
