use Rattle.std.proofs.Common.{rules, inr, subst, ◌≡◌}
use Rattle.server_links.specs.Exchanges.{Asks}
use Rattle.node_sockets.specs.Lines.{CallsNode}
use Rattle.node_sockets.specs.Requests.{request_text}
use Rattle.node_sockets.proofs.stream_port.StreamPortNodePort.send.Goals as goal

pub returns-clause-sends : goal.returns-clause-sends
returns-clause-sends g c =
    let text : c.as_slice.result.now ≡ request_text c.args.asking c.args.command.now = search rules in (
      inr
          (subst (λ t. CallsNode (record {
            opens = λ port w. g.D.Dial.opens c.args.self.now.dialer port w.writer;
            asks = Asks (record { gave = g.D.Input.ByteIn.gave; took = g.D.Output.ByteOut.took });
            base_port = c.args.self.now.base_port;
            before = c.args.self.now.lines.items;
            after = c.ask.new.self.lines.items;
          }) c.args.asking t c.args.node c.ask.result) text c.ask.ensures.asked),
      c.ask.ensures.dialer,
      c.ask.ensures.port,
    )
