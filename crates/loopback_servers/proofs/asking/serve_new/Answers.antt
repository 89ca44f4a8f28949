use Rattle.loopback_servers.proofs.Clients.{client_of}
use Rattle.loopback_servers.proofs.asking.serve_new.Goals as goal

pub returns-clause-client : goal.returns-clause-client
returns-clause-client g c =
    client_of (λ p. p.seat) (λ q. q.node) (λ q. q.caller) g.B.ClusterBrand.setup.opening
    (λ a b. record {
      gave = g.I.ByteIn.gave;
      ends = g.I.ByteIn.ends;
      failures = g.I.ByteIn.failures;
      before = a;
      after = b;
    })
    (λ a b. record { took = g.O.ByteOut.took; failures = g.O.ByteOut.failures; before = a; after = b })
    c.args.connection.now.node c.args.id c.args.port.now c.tell_session-ended.new.port c.args.questions
    c.tell_session-ended.new.questions c.args.connection.now.reader c.tell_session-ended.new.connection.reader
    c.args.connection.now.writer c.tell_session-ended.new.connection.writer c.tell_session-ended.result.0
    c.tell_session-ended.result.1 c.requires.there c.requires.node c.requires.new c.tell_session-ended.ensures.served
