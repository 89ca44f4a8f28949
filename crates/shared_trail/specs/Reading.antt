-- What is told of a node that was read, and not called.
use Rattle.std.specs.Prelude.{◌≡◌, ℕ, List, length}
use Rattle.cluster_node.specs.NodeView.{NodeView}
use Rattle.cluster_world.specs.Earning.{world_after}
use Rattle.cluster_world.specs.Ports.{Answer}
use Rattle.cluster_world.specs.Worlds.{World, node_at}
use Rattle.cluster_world.specs.WorldView.{IsNode}
use Rattle.cluster_world.specs.declared.event.Event.{Event}
use Rattle.shared_trail.specs.Trails.{IsTrail}

-- the node i of a cluster that was opened so, as it is when the events of the trail are these
pub record IsNodeThen (opening : World) (events : List Event) (i : ℕ) (node : NodeView) : Type 0 where
  pub trail : IsTrail opening events
  pub whole : IsNode opening.base_port (length opening.nodes) i node
  pub state : node_at (world_after opening events) i ≡ node.node

-- the node i of the cluster, as it was at some moment, is told so
abbrev pub IsToldOf : (NodeView → Answer → Type 0) → (opening : World) → (i : ℕ) → Answer → Type 0
IsToldOf tells opening i answer =
    (events : List Event) × (node : NodeView) × IsNodeThen opening events i node × tells node answer
