-- A store: a finite map from keys to values (Redis keys, the section "Redis keys" of the data types page).
use Rattle.std.specs.Prelude.{Bool, false, List, [], ◌∷◌, ◌||◌, map, Option, None, Some, nat_eq}
use Rattle.std.specs.Ordering.{nat_cmp, eq_by_cmp}
use Rattle.std.specs.Cmp.Lexicographic.{slice_cmp, pointwise}
use Rattle.std.specs.declared.cmp.Ordering.{Ordering}
use Rattle.std.specs.List.{IsDistinct}
use Rattle.std.specs.FinMap as finite
use Rattle.typed_values.specs.declared.value.Value.{Value}
pub use Rattle.client_commands.specs.Commands.{Key}

-- keys in the order of their bytes
abbrev pub order : Key → Key → Ordering
order = slice_cmp nat_cmp

abbrev pub same_key : Key → Key → Bool
same_key = eq_by_cmp order

abbrev pub Store : Type 0
Store = finite.FinMap order Value

-- whether the key is in the list
abbrev pub is_named : Key → List Key → Bool
is_named q [] = false
is_named q (k ∷ ks) = same_key q k || is_named q ks

-- a key with the value that it is to have, or with none where it is to go
abbrev pub Write : Type 0
Write = Key × Option Value

abbrev pub write : Store → Key → Option Value → Store
write s k None = finite.remove s k
write s k (Some v) = finite.insert s k v

-- the writes, one after the other
abbrev pub after_writes : Store → List Write → Store
after_writes s [] = s
after_writes s (w ∷ ws) = after_writes (write s w.0 w.1) ws

abbrev pub keys_written : List Write → List Key
keys_written ws = map (λ w. w.0) ws

abbrev pub HasDistinctKeys : List Write → Type 0
HasDistinctKeys ws = IsDistinct (pointwise nat_eq) (keys_written ws)
