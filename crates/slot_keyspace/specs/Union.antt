-- The keys of a node as the program keeps them: a map for each slot. Seen as one store, they are its union.
use Rattle.std.specs.Prelude.{◌≡◌, ℕ, zero, suc, List, [], ◌∷◌, ◌++◌, length, get_or, IsSome}
use Rattle.std.specs.FinMap as finite
use Rattle.key_slots.specs.HashSlot.{slot_of}
use Rattle.typed_values.specs.declared.value.Value.{Value}
use Rattle.store_commands.specs.Store.{Store, Key}

abbrev pub entries_of : List Store → List (Key × Value)
entries_of [] = []
entries_of (m ∷ ms) = finite.entries m ++ entries_of ms

-- all of their entries
unfoldable pub union_of : List Store → Store
union_of ms = finite.from_entries (entries_of ms)

-- the map of the slot
abbrev pub map_at : List Store → ℕ → Store
map_at ms s = get_or ms s finite.empty

-- a map for each slot, and in it keys of that slot alone
pub record AreBySlot (ms : List Store) : Type 0 where
  pub width : length ms ≡ 16384
  pub own : (s : ℕ) (k : Key) → IsSome (finite.get (map_at ms s) k) → slot_of k ≡ s

-- so many maps without a key
unfoldable pub empty_maps : ℕ → List Store
empty_maps zero = []
empty_maps (suc n) = finite.empty ∷ empty_maps n
