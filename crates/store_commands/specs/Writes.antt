-- The writes that put texts at keys, so that each key is written once.
use Rattle.std.specs.Prelude.{List, [], ◌∷◌, ℕ, Some, if◌then◌else◌}
use Rattle.typed_values.specs.Members.{has}
use Rattle.typed_values.specs.declared.value.Value.TheVariants as value
use Rattle.store_commands.specs.Store.{Key, Write}

-- of a key that is named twice the last text is written
abbrev pub last_writes : List Key → List (List ℕ) → List Write
last_writes [] ts = []
last_writes (k ∷ ks) [] = []
last_writes (k ∷ ks) (t ∷ ts) = if has ks k then last_writes ks ts else (k, Some (value.Text t)) ∷ last_writes ks ts
