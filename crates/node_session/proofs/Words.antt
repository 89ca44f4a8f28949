-- The words of requests.
use Rattle.std.proofs.Common.{◌≡◌, ◌≤◌, ℕ, List, ◌∷◌, length, map, Result, Ok, Err}
use Rattle.std.specs.Prelude.{OnErr}
use Rattle.std.specs.Char.{to_ascii_lowercase}
use Rattle.client_commands.specs.Commands.{ReadsAs}
use Rattle.client_commands.specs.declared.fault.CommandFault.TheVariants.{ArgumentCount}
use Rattle.client_commands.proofs.Names as names
use Rattle.resp2_wire.specs.Stream.{Words}
use Rattle.node_session.specs.Memory.{MayRunOut}
use Rattle.node_session.specs.Requests.{Stored, words_ask}

-- a command that is known by its name has a short one
pub short_name : (word : List ℕ) (ws : List (List ℕ)) → ReadsAs (word ∷ ws) (Err ArgumentCount) → length (map to_ascii_lowercase word) ≤ 1024
short_name word ws e = names.short_name word ws e

-- a request for the store may take memory
pub stored_takes : {A F : Type 0} (r : Result A F) (request : Words) → words_ask request ≡ Stored → OnErr r (MayRunOut request)
stored_takes (Ok x) request is = tt
stored_takes (Err f) request is = rw is tt
