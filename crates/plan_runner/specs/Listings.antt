-- What a node can answer to GETKEYSINSLOT.
use Rattle.std.specs.Prelude.{ℕ, Bool, true, ◌&&◌, ◌==◌, nat_le, List, [], ◌∷◌, length}
use Rattle.std.specs.Ordering.{is_lt}
use Rattle.std.specs.List.{list_all}
use Rattle.key_slots.specs.HashSlot.{slot_of}
use Rattle.cluster_admin.specs.Keys.{Key, order}

-- each key stands before the one after it
unfoldable pub is_rising : List Key → Bool
is_rising [] = true
is_rising (k ∷ []) = true
is_rising (k ∷ (q ∷ ks)) = is_lt (order k q) && is_rising (q ∷ ks)

-- keys of the slot, ascending, at most the batch
abbrev pub is_listing : (slot batch : ℕ) → List Key → Bool
is_listing s b ks = nat_le (length ks) b && list_all (λ k. slot_of k == s) ks && is_rising ks
