-- The keys of one slot (CLUSTER COUNTKEYSINSLOT and CLUSTER GETKEYSINSLOT).
use Rattle.std.specs.Prelude.{ℕ, List, filter, ◌==◌}
use Rattle.std.specs.FinMap as finite
use Rattle.key_slots.specs.HashSlot.{slot_of}
use Rattle.store_commands.specs.Store.{Store, Key}

-- in the order of their bytes
unfoldable pub keys_of : Store → ℕ → List Key
keys_of store s = filter (λ k. slot_of k == s) (finite.keys store)
