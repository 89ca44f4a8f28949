-- How ranges grow at their front.
use Rattle.std.proofs.Common.{◌≡◌, ℕ, ◌≤◌, List, [], ◌∷◌, ◌++◌, length, drop}
use Rattle.std.proofs.lemmas.List.{drop_all}
use Rattle.key_slots.specs.declared.slot_range.SlotRange.{SlotRange}
use Rattle.key_slots.specs.Ranges.{in_front, ranges_from, owner_ranges}

-- past the last slot the range at hand is the last
pub last_range : (found : List SlotRange) (range : SlotRange) (owners : List ℕ) (i : ℕ) → length owners ≤ i → found ++ in_front range (ranges_from i (drop i owners)) ≡ ranges_from 0 owners → found ++ range ∷ [] ≡ owner_ranges owners
unfolding owner_ranges
last_range found range owners i le e = rw (drop_all i owners le) at e
