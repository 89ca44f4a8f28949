use Rattle.std.proofs.Common.{◌++◌, ap, ◌∙◌, decimal}
use Rattle.std.proofs.lemmas.Result.{on_ok_weaker}
use Rattle.std.specs.Prelude.{codes}
use Rattle.cluster_node.specs.Redirections.{id_of}
use Rattle.cluster_reports.specs.NodeLines.{bus_of}
use Rattle.cluster_reports.proofs.Chains.{five}
use Rattle.cluster_reports.proofs.node_lines.put_address.Goals as goal

pub returns : goal.returns
returns c =
    on_ok_weaker c.put_port-2.result
    (λ last.
    five c.args.out.now.items c.put_id.new.out.items c.put.new.out.items c.put_port.new.out.items
    c.put-2.new.out.items c.put_port-2.new.out.items (id_of c.args.node) (codes " 127.0.0.1:") (decimal c.args.port)
    (codes "@") (decimal (bus_of c.args.port)) c.in_ok-put_id.ensures c.in_ok-put.ensures c.in_ok-put_port.ensures
    c.in_ok-put-2.ensures (last ∙ ap (λ k. c.put-2.new.out.items ++ decimal k) c.bus_of.ensures))
    c.put_port-2.ensures
