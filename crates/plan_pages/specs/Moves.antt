-- The section of the moves: which ranges of slots get another owner.
use Rattle.std.specs.Prelude.{ℕ, ◌+◌, ◌-◌, ◌==◌, Bool, not, List, [], ◌∷◌, ◌++◌, cond, codes, decimal}
use Rattle.std.specs.List.{flat_map}
use Rattle.plan_outlines.specs.declared.ranges.RangeChange.{RangeChange}
use Rattle.plan_pages.specs.Words.{left, or_none, pair_text, right, slots_column}

unfoldable pub moves_heading : List ℕ
moves_heading = codes "\nwhat goes where\n"

-- `-682`, or nothing where the range is one slot
abbrev pub last_part : (first last : ℕ) → List ℕ
last_part a b = cond (a == b) [] (45 ∷ decimal b)

-- `      0-682`, with the hyphens below one another
unfoldable pub range_column : (first last : ℕ) → List ℕ
range_column a b = right 7 (decimal a) ++ left 6 (last_part a b)

abbrev pub slots_of : RangeChange → ℕ
slots_of r = (r.last - r.first) + 1

-- `      0-682        683 slots   n0 -> n2`
unfoldable pub move_line : RangeChange → List ℕ
move_line r = range_column r.first r.last ++ (slots_column 15 (slots_of r)
    ++ (codes "   " ++ (pair_text r.before r.after ++ 10 ∷ [])))

-- its slots have another owner after the plan
abbrev pub moves : RangeChange → Bool
moves r = not (r.before == r.after)

-- nothing for a range that stays
unfoldable pub move_part : RangeChange → List ℕ
move_part r = cond (moves r) (move_line r) []

abbrev pub moves_section : List RangeChange → List ℕ
moves_section rs = moves_heading ++ or_none (flat_map move_part rs)
