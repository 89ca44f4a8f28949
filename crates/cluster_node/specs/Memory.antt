-- Where out of memory may stand in the place of a node's reply to a client.
use Rattle.std.specs.Prelude.{◌≡◌, ◌⊎◌, ℕ, Bool, true}
use Rattle.store_commands.specs.Memory.{HasWork, IsMade, Writes}
use Rattle.client_commands.specs.Commands.{keys}
use Rattle.client_commands.specs.declared.command.Command.{Command}
use Rattle.slot_marks.specs.Verdicts.{first_slot}
use Rattle.cluster_node.specs.Nodes.{Node, client_reply, is_marked}
use Rattle.cluster_node.specs.declared.changing.NodeChange.{NodeChange}
use Rattle.cluster_node.specs.declared.changing.NodeChange.TheVariants.{Redirected, Served}

-- there is something to be done
abbrev pub HasWorkIn : NodeChange → Type 0
HasWorkIn (Redirected r) = ⊥
HasWorkIn (Served s d) = HasWork d.1

-- Out of memory may come in the place of the reply: the command writes, its slot has a mark, so that its keys are
-- looked up for the verdict, or the reply is a text or a list, as each error and each redirection is.
abbrev pub ClientTakesMemory : (port me : ℕ) → Node → Bool → Command → Type 0
ClientTakesMemory port me x asking c =
    Writes c ⊎ ((is_marked x (first_slot (keys c)) ≡ true) ⊎ IsMade (client_reply port me x asking c))
