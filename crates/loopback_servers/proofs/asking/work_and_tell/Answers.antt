use Rattle.std.proofs.Common.{refl}
use Rattle.loopback_servers.specs.Clients.{IsClient}
use Rattle.loopback_servers.proofs.Clients.{client_then, clients_between}
use Rattle.loopback_servers.proofs.Growing.{grows_none, grows_then}
use Rattle.loopback_servers.proofs.asking.work_and_tell.Goals as goal

pub loop-connection-init : goal.loop-connection-init
loop-connection-init g c = (grows_none _, (0, refl, refl))

pub loop-connection-preserved : goal.loop-connection-preserved
loop-connection-preserved g c =
    let i = c.loop-connection.invariant in (
      grows_then _ _ _ i.0 c.serve_client.ensures.grows,
      client_then (IsClient g.B.ClusterBrand.setup.opening
          (λ a b. record {
            gave = g.I.ByteIn.gave;
            ends = g.I.ByteIn.ends;
            failures = g.I.ByteIn.failures;
            before = a;
            after = b;
          })
          (λ a b. record { took = g.O.ByteOut.took; failures = g.O.ByteOut.failures; before = a; after = b }))
          c.args.first i.1.0 c.loop-connection.id c.id_after-id.result _ c.loop-connection.port.seat
          c.serve_client.new.port.seat i.1.1 c.id_after-id.ensures i.1.2 c.serve_client.ensures.client,
    )

pub returns-clause-clients : goal.returns-clause-clients
returns-clause-clients g c =
    let i = c.loop-connection.invariant in
    clients_between (IsClient g.B.ClusterBrand.setup.opening
    (λ a b. record {
      gave = g.I.ByteIn.gave;
      ends = g.I.ByteIn.ends;
      failures = g.I.ByteIn.failures;
      before = a;
      after = b;
    })
    (λ a b. record { took = g.O.ByteOut.took; failures = g.O.ByteOut.failures; before = a; after = b }))
    c.args.first i.1.0 c.args.seat c.new-port.result.seat c.loop-connection.port.seat c.into_seat.result
    c.new-port.ensures c.into_seat.ensures i.1.2
