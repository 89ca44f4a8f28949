-- Keys of one slot (Redis Cluster specification, "Multi-keys operations").
use Rattle.std.specs.Prelude.{ℕ, Bool, not, ◌==◌, List, [], ◌∷◌}
use Rattle.std.specs.List.{list_all, list_any}
use Rattle.key_slots.specs.HashSlot.{slot_of}

-- all keys are of the slot
abbrev pub are_of : (slot : ℕ) → List (List ℕ) → Bool
are_of slot ks = list_all (λ k. slot_of k == slot) ks

-- one of the keys is of another slot
abbrev pub has_other_slot : (slot : ℕ) → List (List ℕ) → Bool
has_other_slot slot ks = list_any (λ k. not (slot_of k == slot)) ks

-- the slot of a command is that of its first key
abbrev pub first_slot : List (List ℕ) → ℕ
first_slot [] = 0
first_slot (k ∷ ks) = slot_of k

-- all keys are of the first one's slot
abbrev pub have_one_slot : List (List ℕ) → Bool
have_one_slot ks = are_of (first_slot ks) ks

-- the keys have several slots
abbrev pub is_cross : List (List ℕ) → Bool
is_cross ks = has_other_slot (first_slot ks) ks
