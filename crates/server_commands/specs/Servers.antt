-- The servers of a cluster, by their numbers.
use Rattle.std.specs.Prelude.{ℕ, List, [], slice_index_or}
use Rattle.server_commands.specs.declared.book.Server.{Server}

-- what is said of a number that no server has
abbrev pub nobody : Server
nobody = record { name = []; host = []; port = 0 }

-- the server of this number
abbrev pub server_at : List Server → ℕ → Server
server_at b n = slice_index_or b n nobody
