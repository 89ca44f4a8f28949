-- A node that is read is what the trail's events make of it.
use Rattle.std.proofs.Common.{◌≡◌, ℕ, ◌+◌, ◌∙◌, List, ap, subst, length}
use Rattle.cluster_node.specs.NodeView.{NodeView}
use Rattle.cluster_world.specs.Earning.{world_after}
use Rattle.cluster_world.specs.Worlds.{World, node_at}
use Rattle.cluster_world.specs.WorldView.{IsNode}
use Rattle.cluster_world.specs.declared.event.Event.{Event}
use Rattle.shared_trail.specs.Local.{state_in}
use Rattle.shared_trail.specs.Trails.{IsTrail}
use Rattle.shared_trail.specs.declared.view.Part.{Part}
use Rattle.shared_trail.specs.declared.view.Part.TheVariants.{State}
use Rattle.shared_trail.specs.Reading.{IsNodeThen}

pub is_then : (opening : World) (events : List Event) (h : ℕ × Part) (x x' : NodeView) (n : ℕ)
    → IsTrail opening events → node_at (world_after opening events) n ≡ state_in h.1 → h ≡ (33 + n, State x.node)
    → IsNode opening.base_port (length opening.nodes) n x → x ≡ x' → IsNodeThen opening events n x'
is_then opening events h x x' n trail node holder whole seen = record {
  trail = trail;
  whole = subst (IsNode opening.base_port (length opening.nodes) n) seen whole;
  state = node ∙ ap (λ (q : ℕ × Part). state_in q.1) holder ∙ ap (λ (y : NodeView). y.node) seen;
}
