-- The longest ranges of slots with one owner before and one after.
use Rattle.std.specs.Prelude.{◌≡◌, ◌≢◌, ℕ, ◌+◌, ◌-◌, ◌≤◌, cond, ◌&&◌, ◌==◌, ◌⊎◌, List, [], ◌∷◌, length, slice_index}
use Rattle.std.specs.List.{All, sum_by}
use Rattle.plan_outlines.specs.declared.ranges.RangeChange.{RangeChange}

-- the range, in front of the ranges of the slots after it: where the next one has the same owners, the two are one
abbrev pub in_front : RangeChange → List RangeChange → List RangeChange
in_front range [] = range ∷ []
in_front range (next ∷ rest) =
    cond (range.before == next.before && range.after == next.after) (record range { last = next.last } ∷ rest)
    (range ∷ (next ∷ rest))

-- the range of a slot alone
abbrev pub alone : (slot before after : ℕ) → RangeChange
alone s b a = record { first = s; last = s; before = b; after = a }

-- the ranges of these owners before and after, of which the first ones are those of the slot `from`
abbrev pub changes_from : ℕ → List ℕ → List ℕ → List RangeChange
changes_from from [] after = []
changes_from from (b ∷ before) [] = []
changes_from from (b ∷ before) (a ∷ after) = in_front (alone from b a) (changes_from (from + 1) before after)

unfoldable pub change_ranges : List ℕ → List ℕ → List RangeChange
change_ranges before after = changes_from 0 before after

-- ---- what the ranges are, in other words

abbrev pub BeginsOther : RangeChange → List RangeChange → Type 0
BeginsOther range [] = Unit {0}
BeginsOther range (next ∷ rest) = (range.before ≢ next.before) ⊎ (range.after ≢ next.after)

-- the ranges follow one another from the slot `from` up to `end`, without a gap, and no two neighbours have one owner
-- before and one after
abbrev pub Follow : ℕ → ℕ → List RangeChange → Type 0
Follow from end [] = from ≡ end
Follow from end (range ∷ rest) =
    (range.first ≡ from) × (range.first ≤ range.last) × BeginsOther range rest × Follow (range.last + 1) end rest

-- all slots of the range have its owners
abbrev pub IsOwned : List ℕ → List ℕ → RangeChange → Type 0
IsOwned before after range =
    (s : ℕ) → range.first ≤ s → s ≤ range.last
    → (slice_index before s ≡ range.before) × (slice_index after s ≡ range.after)

-- how many slots the range has
abbrev pub width : RangeChange → ℕ
width range = (range.last - range.first) + 1

-- ascending, without a gap, with one owner before and one after each, as long as can be, and of all slots
pub record CoverAllSlots (before after : List ℕ) (ranges : List RangeChange) : Type 0 where
  pub follow : Follow 0 (length before) ranges
  pub owned : All (IsOwned before after) ranges
  pub widths : sum_by width ranges ≡ length before

abbrev pub RangesCoverAllSlots : Type 0
RangesCoverAllSlots =
    (before after : List ℕ) → length before ≡ length after → CoverAllSlots before after (change_ranges before after)
