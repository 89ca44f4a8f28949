use Rattle.std.proofs.Common.{arith}
use Rattle.cluster_reports.specs.NodeLines.{node_line, nodes_text}
use Rattle.cluster_reports.proofs.Lengths.{length-nodes_text}
use Rattle.cluster_reports.proofs.Numbers.{put_all, put_first, put_more}
use Rattle.cluster_reports.proofs.node_lines.put_lines.Goals as goal

pub loop-number-init : goal.loop-number-init
loop-number-init c = put_first (node_line c.args.base_port c.args.table.now) c.args.out.now.items

pub loop-number-preserved : goal.loop-number-preserved
loop-number-preserved c =
    put_more (node_line c.args.base_port c.args.table.now) c.loop-number.number c.of.result c.args.out.now.items
    c.loop-number.out.items _ c.of.ensures c.loop-number.invariant c.in_ok-put_line.ensures

pub returns-clause-text : goal.returns-clause-text
unfolding nodes_text
returns-clause-text c =
    let nodes = c.nodes-number-end.ensures in
    put_all (node_line c.args.base_port c.args.table.now) c.args.table.now.nodes c.loop-number.number
    c.args.out.now.items c.loop-number.out.items (omega (arith, nodes.value))
    (omega (arith, nodes.value)) c.loop-number.invariant

pub returns-clause-short : goal.returns-clause-short
returns-clause-short c =
    let nodes = c.nodes-number-end.ensures in
    length-nodes_text c.args.base_port c.args.table.now c.requires nodes.most nodes.width
