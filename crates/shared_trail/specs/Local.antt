-- Events that change one node alone, or two.
use Rattle.std.specs.Prelude.{◌≡◌, ◌≢◌, ℕ, ◌<◌, List, [], length}
use Rattle.cluster_node.specs.Nodes.{Node, blank}
use Rattle.cluster_world.specs.Worlds.{World, node_at, change_node}
use Rattle.cluster_world.specs.Steps.{after, Answers}
use Rattle.cluster_world.specs.declared.event.Event.{Event}
use Rattle.shared_trail.specs.declared.view.Part.{Part}
use Rattle.shared_trail.specs.declared.view.Part.TheVariants.{Calls, State}

-- a world of so many nodes, the first of which has this port
pub record IsOf (port count : ℕ) (w : World) : Type 0 where
  pub port_is : w.base_port ≡ port
  pub count_is : length w.nodes ≡ count

-- in every such world in which the node n is x, the event is answered so, and it leaves y there and all else as it is
abbrev pub IsLocal : (port count n : ℕ) → Node → Event → Node → Type 0
IsLocal port count n x e y = (w : World) → IsOf port count w → n < count → node_at w n ≡ x
    → Answers w e × (after w e ≡ change_node w n y)

-- in every such world in which the nodes a and b are x and y, the event is answered so, and it leaves x' and y' there
-- and all else as it is
abbrev pub IsShared : (port count a b : ℕ) → (x y : Node) → Event → (x' y' : Node) → Type 0
IsShared port count a b x y e x' y' = (w : World) → IsOf port count w → a < count → b < count → node_at w a ≡ x
    → node_at w b ≡ y → Answers w e × (after w e ≡ change_node (change_node w b y') a x')

-- what is in a part
abbrev pub calls_in : Part → List Event
calls_in (Calls l) = l
calls_in (State x) = []

abbrev pub state_in : Part → Node
state_in (Calls l) = blank
state_in (State x) = x
