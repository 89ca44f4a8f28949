use Rattle.std.proofs.Common.{◌≡◌, subst}
use Rattle.cluster_world.specs.Worlds.{node_at}
use Rattle.shared_trail.specs.Local.{state_in}
use Rattle.cluster_world.specs.Earning.{world_after}
use Rattle.shared_trail.specs.TrailView.{TrailView}
use Rattle.shared_trail.proofs.Stages.{shown_node}
use Rattle.shared_trail.proofs.locked_trail.LockedTrail.confirm_node.Goals as goal

pub returns-clause-node : goal.returns-clause-node
returns-clause-node g c =
    subst (λ (t : TrailView). node_at (world_after g.B.ClusterBrand.setup.opening t.events) g.row.N ≡ state_in c.args.holder.now.1) c.self.view_is (shown_node _ _ _ _ _ _ _ _ c.self.invariant.0 c.requires c.confirm.ensures.part).0
