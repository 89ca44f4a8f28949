-- The longest ranges of slots with one owner (the reply of CLUSTER SLOTS, one entry for each).
use Rattle.std.specs.Prelude.{◌≡◌, ◌≢◌, ℕ, ◌+◌, ◌≤◌, cond, List, [], ◌∷◌, length, map, nat_eq, slice_index}
use Rattle.std.specs.List.{All}
use Rattle.key_slots.specs.declared.slot_range.SlotRange.{SlotRange}

-- the range, in front of the ranges of the slots after it: where the next one has the same owner, the two are one
abbrev pub in_front : SlotRange → List SlotRange → List SlotRange
in_front range [] = range ∷ []
in_front range (next ∷ rest) =
    cond (nat_eq range.owner next.owner) (record range { last = next.last } ∷ rest) (range ∷ (next ∷ rest))

-- the ranges of these owners, of which the first owns the slot `from`
abbrev pub ranges_from : ℕ → List ℕ → List SlotRange
ranges_from from [] = []
ranges_from from (owner ∷ owners) =
    in_front (record { first = from; last = from; owner = owner }) (ranges_from (from + 1) owners)

unfoldable pub owner_ranges : List ℕ → List SlotRange
owner_ranges owners = ranges_from 0 owners

-- the first slot and the owner of each range
abbrev pub start_of : SlotRange → ℕ × ℕ
start_of range = (range.first, range.owner)

abbrev pub starts_of : List ℕ → List (ℕ × ℕ)
starts_of owners = map start_of (owner_ranges owners)

abbrev pub BeginsOther : ℕ → List SlotRange → Type 0
BeginsOther owner [] = Unit {0}
BeginsOther owner (next ∷ rest) = owner ≢ next.owner

-- the ranges follow one another from the slot `from` up to `end`, without a gap, and no two neighbours have one owner
abbrev pub Follow : ℕ → ℕ → List SlotRange → Type 0
Follow from end [] = from ≡ end
Follow from end (range ∷ rest) =
    (range.first ≡ from) × (range.first ≤ range.last) × BeginsOther range.owner rest × Follow (range.last + 1) end rest

-- all slots of the range have its owner
abbrev pub IsOwned : List ℕ → SlotRange → Type 0
IsOwned owners range = (s : ℕ) → range.first ≤ s → s ≤ range.last → slice_index owners s ≡ range.owner

-- ascending, without a gap, with one owner each, and as long as can be
pub record AreLongest (owners : List ℕ) (ranges : List SlotRange) : Type 0 where
  pub follow : Follow 0 (length owners) ranges
  pub owned : All (IsOwned owners) ranges

abbrev pub RangesAreLongest : Type 0
RangesAreLongest = (owners : List ℕ) → AreLongest owners (owner_ranges owners)
