-- An ordered map of the program, seen as a store.
use Rattle.std.specs.Prelude.{ℕ, ◌≤◌, List, length, map}
use Rattle.std.specs.FinMap as finite
use Rattle.std.specs.List.{All}
use Rattle.std.specs.Map.{keys_of}
use Rattle.std.specs.declared.alloc.Global.{Global}
use Rattle.std.specs.declared.vec.Vec.{Vec}
use Rattle.typed_values.specs.declared.value.Value.{Value}
use Rattle.store_commands.specs.Store.{Store, Key}

abbrev pub pairs_of : List (Vec ℕ Global × Value) → List (Key × Value)
pairs_of es = map (λ e. (e.0.items, e.1)) es

abbrev pub store_of : List (Vec ℕ Global × Value) → Store
store_of es = finite.from_entries (pairs_of es)

abbrev pub IsKey : Vec ℕ Global → Type 0
IsKey k = length k.items ≤ 1048576

-- each key is within the limit of one text
abbrev pub HasKeys : List (Vec ℕ Global × Value) → Type 0
HasKeys es = All IsKey (keys_of es)
