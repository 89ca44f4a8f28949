-- What a client's command does to its node.
use Rattle.std.specs.Prelude.{ℕ}
use Rattle.store_commands.specs.NoEmptyCollections.{HasNoEmptyCollection}
use Rattle.cluster_node.specs.Changing.{Makes}
use Rattle.cluster_node.specs.Nodes.{Node}
use Rattle.cluster_node.specs.declared.changing.NodeChange.{NodeChange}
use Rattle.cluster_world.specs.declared.event.Event.{Event}
use Rattle.shared_trail.specs.Local.{IsLocal}

-- what was prepared for the node x makes of it what the event does, which holds no empty collection
pub record IsServedBy (port count n : ℕ) (x : Node) (e : Event) (d : NodeChange) : Type 0 where
  pub next : Node
  pub makes : Makes d x next
  pub whole : HasNoEmptyCollection next.held
  pub local : IsLocal port count n x e next
