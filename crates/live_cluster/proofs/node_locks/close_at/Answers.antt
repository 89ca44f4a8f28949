use Rattle.std.proofs.Common.{is_some, sym, ap, ◌∙◌}
use Rattle.cluster_world.specs.Earning.{world_after}
use Rattle.live_cluster.proofs.Rests.{row_more}
use Rattle.live_cluster.proofs.node_locks.close_at.Goals as goal

pub returns-in-Some-clause-row : goal.returns-in-Some-clause-row
returns-in-Some-clause-row g c =
    let w = g.B.ClusterBrand.setup.opening in
    row_more w (world_after w c.args.trail.now.events) g.row.N c.args.row.now.items c.push_reserved.new.self.items c.settle-node.result c.requires.row
    (sym c.requires.place ∙ ap is_some c.in-Some.is)
    record { is = c.settle-node.ensures.whole; node = sym c.settle-node.ensures.node }
    c.push_reserved.ensures.items
