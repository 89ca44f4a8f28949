-- Where things stand. The bands stand in a picture of their own, 84 below the whole one's upper edge, in which a slot
-- is 1 wide; its upper half is before the plan and its lower half after it.
use Rattle.std.specs.Prelude.{ℕ, ◌+◌, ◌-◌, ◌*◌, ◌/◌, cond, ◌==◌, List, length, map, min, sum}
use Rattle.plan_outlines.specs.declared.nodes.NodeChange.{NodeChange}
use Rattle.plan_outlines.specs.declared.pairs.PairChange.{PairChange}
use Rattle.plan_outlines.specs.declared.ranges.RangeChange.{RangeChange}

-- how many rows a half has: one for each node
abbrev pub row_count : List NodeChange → ℕ
row_count ns = min 255 (length ns)

-- how many lines the legend has: one for each pair
abbrev pub line_count : List PairChange → ℕ
line_count ps = min 65025 (length ps)

-- the upper edge of a row before the plan
abbrev pub upper_y : (row : ℕ) → ℕ
upper_y k = 28 * k

-- and after it, of this many rows
abbrev pub lower_y : (rows row : ℕ) → ℕ
lower_y n k = (28 * n + 150) + 28 * k

-- how high all bands are, with what flows between them
abbrev pub bands_height : (rows : ℕ) → ℕ
bands_height n = 56 * n + 150

-- how high the whole picture is
abbrev pub whole_height : (rows lines : ℕ) → ℕ
whole_height n l = (56 * n + 22 * l) + 310

-- how many slots a range has
abbrev pub slots_in : RangeChange → ℕ
slots_in r = (r.last + 1) - r.first

-- how many of them get another owner
abbrev pub moved_in : RangeChange → ℕ
moved_in r = cond (r.before == r.after) 0 (slots_in r)

-- how many slots get another owner
abbrev pub moved : List RangeChange → ℕ
moved rs = min 16384 (sum (map moved_in rs))

-- the middle of a range, in the whole picture
abbrev pub middle_x : RangeChange → ℕ
middle_x r = 90 + (900 * ((r.first + r.last) + 1)) / 32768
