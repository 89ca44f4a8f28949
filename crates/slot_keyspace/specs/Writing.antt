-- Several writes at distinct keys, one after the other, so that they can be taken back where one of them fails. Keys
-- that are to go are kept to the end, since what is taken out can't be put back without memory.
use Rattle.std.specs.Prelude.{List, [], ◌∷◌, ◌++◌, Option, None, Some, IsSome}
use Rattle.std.specs.FinMap as finite
use Rattle.typed_values.specs.declared.value.Value.{Value}
use Rattle.store_commands.specs.Store.{Store, Key, Write, write}

-- the store so far, what stood at the keys that were written, and the keys that are to go
pub record Progress : Type 0 where
  pub store : Store
  pub undo : List Write
  pub leaving : List Key

abbrev pub step : Progress → Key → Option Value → Progress
step p k None = record { store = p.store; undo = p.undo; leaving = p.leaving ++ k ∷ [] }
step p k (Some v) = record {
  store = finite.insert p.store k v;
  undo = p.undo ++ (k, finite.get p.store k) ∷ [];
  leaving = p.leaving;
}

-- the store with the writes taken back, the last one first
abbrev pub undone : List Write → Store → Store
undone [] s = s
undone (u ∷ us) s = write (undone us s) u.0 u.1

-- at each key something stands when its turn comes
abbrev pub CanBeUndone : List Write → Store → Type 0
CanBeUndone [] s = Unit {0}
CanBeUndone (u ∷ us) s = CanBeUndone us s × IsSome (finite.get (undone us s) u.0)
