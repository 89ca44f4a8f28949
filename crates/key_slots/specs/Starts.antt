-- The owners of all slots, kept as the first slot and the owner of each range.
use Rattle.std.specs.Prelude.{◌≡◌, ℕ, zero, suc, ◌-◌, ◌<◌, ◌≤◌, Bool, true, false, cond, List, [], ◌∷◌, ◌++◌, Option}
use Rattle.std.specs.Prelude.{None, Some, length, nat_eq, nat_lt, slice_index}
use Rattle.std.specs.List.{AllByRecursion}
use Rattle.key_slots.specs.declared.slot_range.SlotRange.{SlotRange}
use Rattle.key_slots.specs.Owners.{IsTable}
use Rattle.key_slots.specs.Ranges.{starts_of}

-- the owner of the slot: that of the last range that begins at it or before it
abbrev pub owner_in : ℕ → List (ℕ × ℕ) → ℕ → ℕ
owner_in before [] slot = before
owner_in before (start ∷ starts) slot = cond (nat_lt slot start.0) before (owner_in start.1 starts slot)

-- the owners of so many slots, of which `from` is the first
abbrev pub owners_from : ℕ → ℕ → List (ℕ × ℕ) → List ℕ
owners_from zero from starts = []
owners_from (suc n) from starts = owner_in 0 starts from ∷ owners_from n (suc from) starts

unfoldable pub owners_by : List (ℕ × ℕ) → List ℕ
owners_by starts = owners_from 16384 0 starts

-- a table of owners, of which these are the longest ranges
pub record IsRow (nodes : ℕ) (starts : List (ℕ × ℕ)) : Type 0 where
  pub table : IsTable (record { nodes = nodes; owners = owners_by starts })
  pub longest : starts ≡ starts_of (owners_by starts)

-- whether the slot before has this owner
abbrev pub is_owner : Option ℕ → ℕ → Bool
is_owner None o = false
is_owner (Some p) o = nat_eq p o

abbrev pub owner_before : List ℕ → ℕ → Option ℕ
owner_before owners zero = None
owner_before owners (suc slot) = Some (slice_index owners slot)

abbrev pub start_unless : Bool → ℕ → ℕ → List (ℕ × ℕ)
start_unless true slot owner = []
start_unless false slot owner = (slot, owner) ∷ []

-- each slot begins a range where its owner is not that of the slot before
abbrev pub starts_after : Option ℕ → ℕ → List ℕ → List (ℕ × ℕ)
starts_after p i [] = []
starts_after p i (o ∷ os) = start_unless (is_owner p o) i o ++ starts_after (Some o) (suc i) os

abbrev pub Below : ℕ → List (ℕ × ℕ) → Type 0
Below s = AllByRecursion (λ e. e.0 < s)

abbrev pub From : ℕ → List (ℕ × ℕ) → Type 0
From s = AllByRecursion (λ e. s ≤ e.0)

-- so many of the starts are below the number, and the others are not
abbrev pub IsPlace : ℕ → List (ℕ × ℕ) → ℕ → Type 0
IsPlace number starts place = (l r : List (ℕ × ℕ)) → starts ≡ l ++ r → Below number l → From number r → place ≡ length l

-- at least so many of the starts are below the number
abbrev pub IsNotPast : ℕ → List (ℕ × ℕ) → ℕ → Type 0
IsNotPast number starts place =
    (l r : List (ℕ × ℕ)) → starts ≡ l ++ r → Below number l → From number r → place ≤ length l

-- where the range before these starts ends
abbrev pub next_first : ℕ → List (ℕ × ℕ) → ℕ
next_first end [] = end
next_first end (e ∷ es) = e.0

abbrev pub between : ℕ → List (ℕ × ℕ) → List SlotRange
between end [] = []
between end (e ∷ es) = record { first = e.0; last = next_first end es - 1; owner = e.1 } ∷ between end es

-- what stands before the start of the slot, which has one unless it joins the range before it, and what stands after it
pub record IsAround (slot owner : ℕ) (joins : Bool) (before after : List (ℕ × ℕ)) (starts : List (ℕ × ℕ)) : Type 0 where
  pub whole : starts ≡ before ++ (start_unless joins slot owner ++ after)
  pub below : Below slot before
  pub above : From (suc slot) after
