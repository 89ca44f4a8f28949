-- Keys with their values, as they go from one store to another (the command MIGRATE).
use Rattle.std.specs.Prelude.{List, [], ◌∷◌, map, Option, Some, None, nat_eq}
use Rattle.std.specs.Cmp.Lexicographic.{pointwise}
use Rattle.std.specs.List.{IsDistinct}
use Rattle.std.specs.FinMap as finite
use Rattle.typed_values.specs.declared.value.Value.{Value}
use Rattle.store_commands.specs.Store.{Store, Key}

abbrev pub Entry : Type 0
Entry = Key × Value

abbrev pub found_with : Key → Option Value → List Entry → List Entry
found_with k None es = es
found_with k (Some v) es = (k, v) ∷ es

-- those of the keys at which something stands, with what stands there
unfoldable pub batch_of : Store → List Key → List Entry
batch_of s [] = []
batch_of s (k ∷ ks) = found_with k (finite.get s k) (batch_of s ks)

-- with each value at its key
unfoldable pub with_entries : Store → List Entry → Store
with_entries s [] = s
with_entries s (e ∷ es) = with_entries (finite.insert s e.0 e.1) es

-- no key stands twice
abbrev pub HasEachKeyOnce : List Entry → Type 0
HasEachKeyOnce es = IsDistinct (pointwise nat_eq) (map (λ e. e.0) es)
