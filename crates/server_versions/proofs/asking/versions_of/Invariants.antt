use Rattle.std.proofs.Common.{◌≡◌}
use Rattle.std.specs.Prelude.{vec_len}
use Rattle.server_versions.specs.Asking.{AreToldBy, AsksVersion}
use Rattle.server_versions.proofs.asking.versions_of.Given as goal

-- the servers before were asked
abbrev pub invariant-loop-number : goal.invariant-loop-number
invariant-loop-number g l =
    AreToldBy (AsksVersion (record { gave = g.I.ByteIn.gave; took = g.O.ByteOut.took })) l.number l.versions.items
    × (vec_len l.links ≡ l.nodes)
