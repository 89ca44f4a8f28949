use Rattle.loopback_servers.proofs.Clients.{plain_of}
use Rattle.loopback_servers.proofs.Growing.{chain_grows}
use Rattle.loopback_servers.proofs.workers.serve_at_node.Goals as goal

pub returns-clause-plain : goal.returns-clause-plain
returns-clause-plain g c =
    let e = c.serve_session.ensures.exact in
    plain_of (λ p. p.seat) g.B.ClusterBrand.setup.opening
    (λ a b. record {
      gave = g.I.ByteIn.gave;
      ends = g.I.ByteIn.ends;
      failures = g.I.ByteIn.failures;
      before = a;
      after = b;
    })
    (λ a b. record { took = g.O.ByteOut.took; failures = g.O.ByteOut.failures; before = a; after = b })
    c.args.connection.now.node c.args.port.now c.serve_session.new.port c.args.connection.now.reader
    c.serve_session.new.reader c.args.connection.now.writer c.serve_session.new.writer c.serve_session.result.0
    c.serve_session.result.1 c.requires
    (e.0, e.1, e.2, e.3, e.4, e.5, e.6)

pub returns-clause-grows : goal.returns-clause-grows
returns-clause-grows g c = chain_grows (λ p. p.seat) _ _ _ c.serve_session.ensures.exact.5.chain
