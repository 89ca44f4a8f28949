use Rattle.std.proofs.Common.{rules, ◌≡◌, ◌<◌, ◌+◌, length, ap}
use Rattle.node_sockets.proofs.Calling.{called}
use Rattle.server_links.specs.Exchanges.{Asks}
use Rattle.node_sockets.proofs.stream_port.StreamPort.call_line.Goals as goal

pub returns-clause-asked : goal.returns-clause-asked
returns-clause-asked g c =
    let same : c.from-2.result ≡ c.args.node = search rules in
    let node : c.from.result ≡ c.args.node = search rules in
    let within : c.args.node < length c.args.self.now.lines.items = search rules in
    called (λ port w. g.D.Dial.opens c.args.self.now.dialer port w.writer)
    (Asks (record { gave = g.D.Input.ByteIn.gave; took = g.D.Output.ByteOut.took })) c.args.asking c.args.request.now
    c.args.self.now.base_port (c.args.self.now.base_port + c.from.result) c.args.node c.from-2.result
    c.args.self.now.lines.items _ c.index_mut-line.result.now c.ask.new.self c.ask.result
    (ap (λ n. c.args.self.now.base_port + n) node) same within c.index_mut-line.ensures.value c.ask.ensures
