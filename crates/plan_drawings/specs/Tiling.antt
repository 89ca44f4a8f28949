-- What the bars of a picture show of slots and owners.
use Rattle.std.specs.Prelude.{◌≡◌, ℕ, ◌+◌, ◌*◌, ◌<◌, ◌≤◌, List, [], ◌∷◌, length, map, slice_index, sum}
use Rattle.std.specs.List.{All}
use Rattle.plan_outlines.specs.Changes.{change_ranges}
use Rattle.plan_drawings.specs.Bars.{bar_width, bars_after, bars_before}
use Rattle.plan_drawings.specs.declared.bars.Bar.{Bar}

-- the bars follow one another from the slot `from` up to `end`, without a gap and without an overlap
abbrev pub Adjoin : (from end : ℕ) → List Bar → Type 0
Adjoin from end [] = from ≡ end
Adjoin from end (b ∷ bs) = (b.first ≡ from) × (0 < b.width) × Adjoin (b.first + b.width) end bs

-- each slot over which the bar is drawn belongs to the node in whose row it stands
abbrev pub IsOfOwner : (owners : List ℕ) → Bar → Type 0
IsOfOwner owners b = (s : ℕ) → b.first ≤ s → s < b.first + b.width → slice_index owners s ≡ b.row

-- the bar is as high up as the band of its row, in the half whose upper edge is `top`
abbrev pub IsInRow : (top : ℕ) → Bar → Type 0
IsInRow top b = b.y ≡ top + 28 * b.row

-- the bars of all slots: in order, 16,384 wide in all, and each in the row of its slots' owner
pub record ShowOwners (owners : List ℕ) (top : ℕ) (bars : List Bar) : Type 0 where
  pub order : Adjoin 0 16384 bars
  pub widths : sum (map bar_width bars) ≡ 16384
  pub owned : All (IsOfOwner owners) bars
  pub placed : All (IsInRow top) bars

-- in the picture of a plan: the owners before it in the upper half, and those after it in the lower
abbrev pub BarsShowOwners : Type 0
BarsShowOwners = (before after : List ℕ) (rows : ℕ) → length before ≡ 16384 → length after ≡ 16384
    → ShowOwners before 0 (bars_before (change_ranges before after))
    × ShowOwners after (28 * rows + 150) (bars_after rows (change_ranges before after))
