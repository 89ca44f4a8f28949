use Rattle.std.proofs.Common.{◌≡◌, ℕ}
use Rattle.loopback_servers.specs.Clients.{AreClients, IsClient, id_at}
use Rattle.loopback_servers.specs.Working.{GrowsTo}
use Rattle.loopback_servers.proofs.asking.work_and_tell.Given as goal

-- sessions only add calls, and each is of the next client
abbrev pub invariant-loop-connection : goal.invariant-loop-connection
invariant-loop-connection g l =
    GrowsTo l.initial.port.seat l.port.seat
    × ((count : ℕ) × (l.id ≡ id_at l.first count)
    × AreClients (IsClient g.B.ClusterBrand.setup.opening
    (λ a b. record {
      gave = g.I.ByteIn.gave;
      ends = g.I.ByteIn.ends;
      failures = g.I.ByteIn.failures;
      before = a;
      after = b;
    })
    (λ a b. record { took = g.O.ByteOut.took; failures = g.O.ByteOut.failures; before = a; after = b }))
    l.first count l.initial.port.seat l.port.seat)
