-- A client's command that is prepared and not done yet.
use Rattle.std.specs.Prelude.{◌≡◌, Bool}
use Rattle.resp2_wire.specs.declared.reply.Reply.{Reply}
use Rattle.store_commands.specs.Apply.{apply}
use Rattle.store_commands.specs.NoEmptyCollections.{HasNoEmptyCollection}
use Rattle.client_commands.specs.declared.command.Command.{Command}
use Rattle.slot_keyspace.specs.OneSlot.{IsPreparedIn}
use Rattle.cluster_node.specs.Nodes.{Node, client_reply, client_node}
use Rattle.cluster_node.specs.NodeView.{NodeView}
use Rattle.cluster_node.specs.declared.changing.NodeChange.{NodeChange}
use Rattle.cluster_node.specs.declared.changing.NodeChange.TheVariants.{Redirected, Served}

-- the reply that it hands out
abbrev pub reply_in : NodeChange → Reply
reply_in (Redirected r) = r
reply_in (Served s d) = d.0

-- what it makes of the node: nothing else, or what the command for which it was prepared leaves
abbrev pub Makes : NodeChange → Node → Node → Type 0
Makes (Redirected r) x y = y ≡ x
Makes (Served s d) x y = (c : Command) × IsPreparedIn x.held s c d × (y ≡ record x { held = apply x.held c })

-- it can be done at this node, which holds no empty collection afterwards
abbrev pub CanBeDone : NodeChange → Node → Type 0
CanBeDone d x = (y : Node) × Makes d x y × HasNoEmptyCollection y.held

-- it was done: the node is what it makes of it
abbrev pub IsDone : NodeChange → NodeView → NodeView → Type 0
IsDone d x x' = (y : Node) → Makes d x.node y → x' ≡ record x { node = y }

-- what a client's command asks of this node
pub record IsPrepared (x : NodeView) (asking : Bool) (c : Command) (d : NodeChange) : Type 0 where
  pub reply_is : reply_in d ≡ client_reply x.base_port x.me x.node asking c
  pub makes : Makes d x.node (client_node x.me x.node asking c)
  pub whole : HasNoEmptyCollection (client_node x.me x.node asking c).held
