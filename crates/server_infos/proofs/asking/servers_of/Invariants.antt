use Rattle.std.proofs.Common.{◌≡◌, length}
use Rattle.std.specs.Prelude.{vec_len}
use Rattle.server_infos.specs.Asking.{AreToldBy, AsksFigures}
use Rattle.server_infos.proofs.asking.servers_of.Given as goal

-- the servers before were asked
abbrev pub invariant-loop-number : goal.invariant-loop-number
invariant-loop-number g l =
    AreToldBy (AsksFigures (record { gave = g.I.ByteIn.gave; took = g.O.ByteOut.took })) l.book l.number l.servers.items
    × (vec_len l.links ≡ length l.book)
