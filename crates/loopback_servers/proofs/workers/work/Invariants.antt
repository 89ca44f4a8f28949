use Rattle.std.proofs.Common.{ℕ}
use Rattle.loopback_servers.specs.Working.{AreSessions, GrowsTo, IsPlain}
use Rattle.loopback_servers.proofs.workers.work.Given as goal

-- sessions only add calls, and hear no question
abbrev pub invariant-loop-connection : goal.invariant-loop-connection
invariant-loop-connection g l =
    GrowsTo l.initial.port.seat l.port.seat
    × ((count : ℕ) × AreSessions (IsPlain g.B.ClusterBrand.setup.opening
    (λ a b. record {
      gave = g.I.ByteIn.gave;
      ends = g.I.ByteIn.ends;
      failures = g.I.ByteIn.failures;
      before = a;
      after = b;
    })
    (λ a b. record { took = g.O.ByteOut.took; failures = g.O.ByteOut.failures; before = a; after = b }))
    count l.initial.port.seat l.port.seat)
