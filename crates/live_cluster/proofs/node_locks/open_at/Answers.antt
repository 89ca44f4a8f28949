use Rattle.std.proofs.Common.{arith, ◌<◌, length}
use Rattle.std.specs.Prelude.{vec_len}
use Rattle.live_cluster.proofs.Fresh.{dealt_node}
use Rattle.live_cluster.proofs.Rests.{filled, rest_first}
use Rattle.live_cluster.proofs.node_locks.open_at.Goals as goal

pub new-requires : goal.new-requires
new-requires g c =
    let w = g.B.ClusterBrand.setup.opening in
    let xs = c.args.nodes.now.items in
    let some : 0 < length xs = filled (vec_len c.args.nodes.now) (length xs) c.if-is_empty.ensures c.args.nodes.now.ok.0 in
    let first = rest_first w g.row.N xs c.remove-node.result c.requires.rest some c.remove-node.ensures.value in
    let low : g.row.N < length w.nodes = omega (arith, c.requires.rest.len, some) in
    (omega arith, (first.is, dealt_node w g.row.N c.remove-node.result.node c.args.keeper.now c.deal.result c.requires.keeper low first.node c.deal.ensures.number c.deal.ensures.part))
