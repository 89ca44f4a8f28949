-- One event is one step of a world, and a run chains them.
use Rattle.std.specs.Prelude.{◌≡◌, ℕ, ◌<◌, List, [], ◌∷◌, length}
use Rattle.cluster_node.specs.Nodes.{client_reply, client_node, look_reply}
use Rattle.cluster_admin.specs.Commands.{IsCommand}
use Rattle.cluster_node.specs.Memory.{ClientTakesMemory}
use Rattle.cluster_world.specs.Worlds.{World, node_at, change_node}
use Rattle.cluster_world.specs.Commanding.{TakesMemory, admin_reply, admin_after}
use Rattle.cluster_admin.specs.declared.call.AdminCall.{AdminCall}
use Rattle.cluster_world.specs.declared.event.Action.{Action}
use Rattle.cluster_world.specs.declared.event.Action.TheVariants as action
use Rattle.cluster_world.specs.declared.event.Event.{Event}
use Rattle.cluster_world.specs.declared.event.Event.TheVariants.{Client, Look, Admin}

abbrev pub action_of : Event → Action
action_of (Client seat n asking c reply) = action.Client seat n asking c
action_of (Look seat n reply) = action.Look seat n
action_of (Admin n c reply) = action.Admin n c

-- the node that is called
abbrev pub node_of : Action → ℕ
node_of (action.Client seat n asking c) = n
node_of (action.Look seat n) = n
node_of (action.Admin n c) = n

-- a client's call, or an administrator's command that keeps what commands keep
abbrev pub IsCall : Action → Type 0
IsCall (action.Client seat n asking c) = Unit {0}
IsCall (action.Look seat n) = Unit {0}
IsCall (action.Admin n c) = IsCommand c

-- the world after an event
abbrev pub after : World → Event → World
after w (Client seat n asking c reply) = change_node w n (client_node n (node_at w n) asking c)
after w (Look seat n reply) = w
after w (Admin n c reply) = admin_after w n c

-- the event's node is there, and its reply is the world's
abbrev pub Answers : World → Event → Type 0
Answers w (Client seat n asking c reply) = (n < length w.nodes)
    × (reply ≡ client_reply w.base_port n (node_at w n) asking c)
Answers w (Look seat n reply) = (n < length w.nodes) × (reply ≡ look_reply w.base_port (node_at w n))
Answers w (Admin n c reply) = (n < length w.nodes) × (reply ≡ admin_reply w n c)

-- Out of memory may come in the place of the call's reply: of a client's and an administrator's command as is said of
-- these, and of CLUSTER SLOTS, whose reply is a list.
abbrev pub MayTakeMemory : World → Action → Type 0
MayTakeMemory w (action.Client seat n asking c) = ClientTakesMemory w.base_port n (node_at w n) asking c
MayTakeMemory w (action.Look seat n) = Unit {0}
MayTakeMemory w (action.Admin n c) = TakesMemory w n c

abbrev pub Step : World → Event → World → Type 0
Step w e next = Answers w e × (next ≡ after w e)

-- events chained
abbrev pub Run : World → List Event → World → Type 0
Run w [] last = last ≡ w
Run w (e ∷ es) last = Answers w e × Run (after w e) es last

-- a step by a call of the administrator
abbrev pub by_call : World → AdminCall → World → Type 0
by_call w c next = Step w (Admin c.node c.command c.reply) next
