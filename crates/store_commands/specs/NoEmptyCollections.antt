-- A store keeps no empty collection (Redis keys, "Automatic creation and removal of keys" on the page of the data
-- types).
use Rattle.std.specs.Prelude.{◌≡◌, false, Option, Some, None}
use Rattle.std.specs.FinMap.{get}
use Rattle.typed_values.specs.Values.{is_empty_collection}
use Rattle.typed_values.specs.declared.value.Value.{Value}
use Rattle.store_commands.specs.Store.{Key, Store}
use Rattle.store_commands.specs.Apply.{apply}
use Rattle.client_commands.specs.declared.command.Command.{Command}

-- no hash, list or set with nothing in it
abbrev pub IsNoEmptyCollection : Option Value → Type 0
IsNoEmptyCollection None = Unit {0}
IsNoEmptyCollection (Some v) = is_empty_collection v ≡ false

abbrev pub HasNoEmptyCollection : Store → Type 0
HasNoEmptyCollection s = (k : Key) → IsNoEmptyCollection (get s k)

-- a command leaves none where there was none
abbrev pub KeepsNoEmptyCollection : Type 0
KeepsNoEmptyCollection = (s : Store) (c : Command) → HasNoEmptyCollection s → HasNoEmptyCollection (apply s c)
