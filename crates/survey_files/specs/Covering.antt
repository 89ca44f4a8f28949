-- Which node owns each slot, by ranges that are listed.
use Rattle.std.specs.Prelude.{◌≡◌, ◌⊎◌, ℕ, ◌<◌, Bool, true, cond, ◌&&◌, nat_le, List, length, take, Option, None, Some}
use Rattle.std.specs.Prelude.{find, is_none, slice_index, slice_index_or}
use Rattle.key_slots.specs.Owners.{Owners}
use Rattle.key_slots.specs.declared.slot_range.SlotRange.{SlotRange}
use Rattle.cluster_views.specs.Numbers.{first_given, numbers_to}
use Rattle.survey_files.specs.declared.file_fault.FileFault.{FileFault}
use Rattle.survey_files.specs.declared.file_fault.FileFault.TheVariants.{Memory, Nobody, Twice}

abbrev pub has_slot : (slot : ℕ) → SlotRange → Bool
has_slot s r = nat_le r.first s && nat_le s r.last

-- the owner of the range, if it has the slot
abbrev pub owner_by : (slot : ℕ) → SlotRange → Option ℕ
owner_by s r = cond (has_slot s r) (Some r.owner) None

-- that of the first range with the slot
abbrev pub owner_in : List SlotRange → (slot : ℕ) → Option ℕ
owner_in rs s = first_given (owner_by s) rs

-- what is said of a place without a range
abbrev pub no_range : SlotRange
no_range = record { first = 0; last = 0; owner = 0 }

abbrev pub range_at : List SlotRange → ℕ → SlotRange
range_at rs i = slice_index_or rs i no_range

-- no range among the first, so many, has a slot of one before it
abbrev pub AreApart : List SlotRange → (count : ℕ) → Type 0
AreApart rs n = (i : ℕ) → i < n → (s : ℕ) → s < 16384 → has_slot s (range_at rs i) ≡ true
    → owner_in (take i rs) s ≡ None

-- the slot is one of the range at some place, and of one before it
abbrev pub IsTwice : List SlotRange → (slot first again : ℕ) → Type 0
IsTwice rs s m n = (i : ℕ) × (i < length rs) × (has_slot s (range_at rs i) ≡ true) × (owner_in (take i rs) s ≡ Some m)
    × (n ≡ (range_at rs i).owner)

-- so say the ranges, of which no two have one slot
pub record AreOwners (rs : List SlotRange) (row : List (Option ℕ)) : Type 0 where
  pub width : length row ≡ 16384
  pub apart : AreApart rs (length rs)
  pub owners : (s : ℕ) → s < 16384 → slice_index_or row s None ≡ owner_in rs s

abbrev pub IsOverlap : List SlotRange → FileFault → Type 0
IsOverlap rs e = (e ≡ Memory)
    ⊎ ((s : ℕ) × (m : ℕ) × (n : ℕ) × (e ≡ Twice s m n) × IsTwice rs s m n)

-- the lowest slot that no range has
abbrev pub uncovered : List SlotRange → Option ℕ
uncovered rs = find (λ s. is_none (owner_in rs s)) (numbers_to 16384)

-- the table of a cluster of so many nodes in which each slot has the owner of its one range
pub record IsCovered (rs : List SlotRange) (nodes : ℕ) (o : Owners) : Type 0 where
  pub nodes : o.nodes ≡ nodes
  pub apart : AreApart rs (length rs)
  pub owners : (s : ℕ) → s < 16384 → owner_in rs s ≡ Some (slice_index o.owners s)

-- why there is none
abbrev pub IsUncovered : List SlotRange → FileFault → Type 0
IsUncovered rs e = IsOverlap rs e
    ⊎ ((s : ℕ) × (e ≡ Nobody s) × AreApart rs (length rs) × (uncovered rs ≡ Some s))
