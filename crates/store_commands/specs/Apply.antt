-- A command on a store: it looks at its keys, acts, and writes at its keys.
use Rattle.std.specs.Prelude.{List, [], ◌∷◌, map}
use Rattle.std.specs.FinMap.{get}
use Rattle.resp2_wire.specs.declared.reply.Reply.{Reply}
use Rattle.store_commands.specs.Store.{Key, Store, write}
use Rattle.store_commands.specs.Found.{Found}
use Rattle.store_commands.specs.Act.{act}
use Rattle.client_commands.specs.Commands.{keys}
use Rattle.client_commands.specs.declared.command.Command.{Command}

unfoldable pub look_up : Store → List Key → Found
look_up store ks = map (λ k. get store k) ks

unfoldable pub put_all : Store → List Key → Found → Store
put_all store [] vs = store
put_all store (k ∷ ks) [] = store
put_all store (k ∷ ks) (v ∷ vs) = put_all (write store k v) ks vs

-- the reply to a command
unfoldable pub answer : Store → Command → Reply
answer store c = (act c (look_up store (keys c))).0

-- the store after it
unfoldable pub apply : Store → Command → Store
apply store c = put_all store (keys c) (act c (look_up store (keys c))).1
