use Rattle.std.proofs.Common.{refl}
use Rattle.loopback_servers.specs.Working.{IsPlain}
use Rattle.loopback_servers.proofs.Clients.{session_then, sessions_between}
use Rattle.loopback_servers.proofs.Growing.{grows_none, grows_then}
use Rattle.loopback_servers.proofs.workers.work.Goals as goal

pub loop-connection-init : goal.loop-connection-init
loop-connection-init g c = (grows_none _, (0, refl))

pub loop-connection-preserved : goal.loop-connection-preserved
loop-connection-preserved g c =
    let i = c.loop-connection.invariant in (
      grows_then _ _ _ i.0 c.serve_connection-ended.ensures.grows,
      session_then (IsPlain g.B.ClusterBrand.setup.opening
          (λ a b. record {
            gave = g.I.ByteIn.gave;
            ends = g.I.ByteIn.ends;
            failures = g.I.ByteIn.failures;
            before = a;
            after = b;
          })
          (λ a b. record { took = g.O.ByteOut.took; failures = g.O.ByteOut.failures; before = a; after = b }))
          i.1.0 _ c.loop-connection.port.seat _ i.1.1 c.serve_connection-ended.ensures.plain,
    )

pub returns-clause-sessions : goal.returns-clause-sessions
returns-clause-sessions g c =
    let i = c.loop-connection.invariant in
    sessions_between (IsPlain g.B.ClusterBrand.setup.opening
    (λ a b. record {
      gave = g.I.ByteIn.gave;
      ends = g.I.ByteIn.ends;
      failures = g.I.ByteIn.failures;
      before = a;
      after = b;
    })
    (λ a b. record { took = g.O.ByteOut.took; failures = g.O.ByteOut.failures; before = a; after = b }))
    i.1.0 c.args.seat c.new-port.result.seat c.loop-connection.port.seat c.into_seat.result c.new-port.ensures
    c.into_seat.ensures i.1.1
