use Rattle.std.proofs.Common.{◌+◌, length, sym, subst}
use Rattle.cluster_node.specs.NodeView.{NodeView}
use Rattle.shared_trail.specs.Serving.{IsServedBy}
use Rattle.shared_trail.proofs.Locally.{served_done}
use Rattle.shared_trail.proofs.client_calls.serve_locked.Goals as goal

pub commit-requires : goal.commit-requires
commit-requires g c =
    let w = g.B.ClusterBrand.setup.opening in
    let served = subst (λ (x : NodeView). IsServedBy w.base_port (length w.nodes) g.row.N x.node c.args.prepared.event c.args.prepared.change) (sym c.locked.view_is) c.requires.served in
    (served.next, served.makes, served.whole)

pub record-requires-clause-local : goal.record-requires-clause-local
record-requires-clause-local g c =
    let w = g.B.ClusterBrand.setup.opening in
    let served = subst (λ (x : NodeView). IsServedBy w.base_port (length w.nodes) g.row.N x.node c.args.prepared.event c.args.prepared.change) (sym c.locked.view_is) c.requires.served in
    served_done w.base_port (length w.nodes) g.row.N (33 + g.row.N) c.locked.inside.holder c.locked.inside.node c.commit.new.self c.args.prepared.event c.args.prepared.change c.locked.invariant.0 served c.in-Ok.ensures.ok
