-- The nodes of a world, as the program keeps them: each knows its number, how many there are, and the port of the
-- first.
use Rattle.std.specs.Prelude.{◌≡◌, ℕ, ◌<◌, ◌≤◌, List, length, map, slice_index_or, replicate}
use Rattle.std.specs.FinMap as finite
use Rattle.cluster_node.specs.Nodes.{Node, blank}
use Rattle.cluster_node.specs.NodeView.{NodeView}
use Rattle.cluster_world.specs.Worlds.{World}

abbrev pub blank_view : NodeView
blank_view = record { me = 0; nodes = 0; base_port = 0; node = blank }

abbrev pub view_at : List NodeView → ℕ → NodeView
view_at xs i = slice_index_or xs i blank_view

-- the node i among so many
pub record IsNode (port count i : ℕ) (x : NodeView) : Type 0 where
  pub me : x.me ≡ i
  pub nodes : x.nodes ≡ count
  pub port_is : x.base_port ≡ port

pub record AreNodes (port : ℕ) (xs : List NodeView) : Type 0 where
  pub each : (i : ℕ) → i < length xs → IsNode port (length xs) i (view_at xs i)
  pub least : 1 ≤ length xs
  pub most : length xs ≤ 255
  pub port_most : port ≤ 65528

abbrev pub world_of : ℕ → List NodeView → World
world_of port xs = record { base_port = port; nodes = map (λ x. x.node) xs }

-- a node with these owners that holds nothing and has no mark
abbrev pub new_node : List ℕ → Node
new_node owners = record { held = finite.empty; owners = owners; migrating = finite.empty; importing = finite.empty }

-- so many nodes with these owners
abbrev pub new_world : (port count : ℕ) → List ℕ → World
new_world port count owners = record { base_port = port; nodes = replicate count (new_node owners) }
