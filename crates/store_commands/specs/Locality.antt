-- A command looks at and changes the keys that it names, and no other.
use Rattle.std.specs.Prelude.{◌≡◌, true, false}
use Rattle.std.specs.FinMap.{get}
use Rattle.store_commands.specs.Store.{Key, Store, is_named}
use Rattle.store_commands.specs.Apply.{answer, apply}
use Rattle.client_commands.specs.Commands.{keys}
use Rattle.client_commands.specs.declared.command.Command.{Command}

-- what stands at any other key stays
abbrev pub LeavesOthers : Type 0
LeavesOthers = (s : Store) (c : Command) (q : Key) → is_named q (keys c) ≡ false → get (apply s c) q ≡ get s q

-- stores that agree at the named keys give one reply, and agree there afterwards
abbrev pub SeesNamed : Type 0
SeesNamed = (a b : Store) (c : Command) → ((q : Key) → is_named q (keys c) ≡ true → get a q ≡ get b q)
    → (answer a c ≡ answer b c) × ((q : Key) → is_named q (keys c) ≡ true → get (apply a c) q ≡ get (apply b c) q)
