-- The words of the requests (the pages of CLUSTER SETSLOT, CLIENT LIST, CLIENT KILL and MIGRATE).
use Rattle.std.specs.Prelude.{ℕ, List, [], ◌∷◌, ◌++◌, Option, codes, decimal}
use Rattle.server_commands.specs.Spelling.{login_words}
use Rattle.server_commands.specs.declared.book.Server.{Server}
use Rattle.server_commands.specs.declared.credentials.Credentials.{Credentials}

-- `CLUSTER SETSLOT slot IMPORTING id`, with the source's
abbrev pub importing_words : (slot : ℕ) → (source : Server) → List (List ℕ)
importing_words slot source =
    codes "CLUSTER" ∷ codes "SETSLOT" ∷ decimal slot ∷ codes "IMPORTING" ∷ source.name ∷ []

-- `CLIENT LIST TYPE normal`: neither replicas nor subscribers, nor the connection to a master
abbrev pub clients_words : List (List ℕ)
clients_words = codes "CLIENT" ∷ codes "LIST" ∷ codes "TYPE" ∷ codes "normal" ∷ []

-- `CLIENT KILL ID number`
abbrev pub kill_words : (id : ℕ) → List (List ℕ)
kill_words id = codes "CLIENT" ∷ codes "KILL" ∷ codes "ID" ∷ decimal id ∷ []

-- `MIGRATE host port "" 0 timeout REPLACE [AUTH password | AUTH2 user password] KEYS key ..`, to the target
abbrev pub replace_words : Server → (timeout : ℕ) → Option Credentials → (keys : List (List ℕ)) → List (List ℕ)
replace_words target timeout login keys =
    codes "MIGRATE" ∷ target.host ∷ decimal target.port ∷ [] ∷ codes "0" ∷ decimal timeout ∷ codes "REPLACE"
    ∷ (login_words login ++ codes "KEYS" ∷ keys)
