-- Nodes that are still to get their locks, and nodes that came back.
use Rattle.std.specs.Prelude.{◌≡◌, ℕ, ◌+◌, ◌-◌, ◌<◌, List, length, min}
use Rattle.cluster_node.specs.NodeView.{NodeView}
use Rattle.cluster_world.specs.Worlds.{World, node_at}
use Rattle.cluster_world.specs.WorldView.{view_at, IsNode}

-- the node i of the world that was opened, as it is in another
pub record Stands (opening now : World) (i : ℕ) (x : NodeView) : Type 0 where
  pub is : IsNode opening.base_port (length opening.nodes) i x
  pub node : x.node ≡ node_at now i

-- the nodes from n on, as they were opened
pub record IsRest (opening : World) (n : ℕ) (xs : List NodeView) : Type 0 where
  pub len : length xs ≡ length opening.nodes - n
  pub each : (i : ℕ) → i < length xs → Stands opening opening (n + i) (view_at xs i)

-- the nodes below n, as they are now
pub record IsRow (opening : World) (n : ℕ) (now : World) (xs : List NodeView) : Type 0 where
  pub len : length xs ≡ min n (length opening.nodes)
  pub each : (i : ℕ) → i < length xs → Stands opening now i (view_at xs i)
