-- What a client sends to the nodes of a port, and what it is answered.
use Rattle.std.specs.Prelude.{◌≡◌, ℕ, Bool, List, [], ◌∷◌, Result, Ok, Err}
use Rattle.resp2_wire.specs.declared.reply.Reply.{Reply}
use Rattle.client_commands.specs.declared.command.Command.{Command}
use Rattle.cluster_world.specs.Worlds.{World}
use Rattle.cluster_world.specs.Steps.{MayTakeMemory, Step}
use Rattle.cluster_admin.specs.declared.admin.AdminCommand.{AdminCommand}
use Rattle.cluster_world.specs.declared.event.Action.{Action}
use Rattle.cluster_world.specs.declared.event.Action.TheVariants as action
use Rattle.cluster_world.specs.declared.event.Event.TheVariants as event
use Rattle.cluster_admin.specs.declared.port_fault.PortFault.{PortFault}
use Rattle.cluster_admin.specs.declared.port_fault.PortFault.TheVariants.{Memory, Io, Wire}

-- to this node: a command, with ASKING or without, or CLUSTER SLOTS
pub data Call : Type 0 where
  Execute : ℕ → Bool → Command → Call
  Look : ℕ → Call

abbrev pub Answer : Type 0
Answer = Result Reply PortFault

-- a call with its answer
pub record Send : Type 0 where
  pub call : Call
  pub answer : Answer

-- sends, one after the other, from one state of a port to another
abbrev pub Chain : {P : Type 0} → (P → Send → P → Type 0) → P → List Send → P → Type 0
Chain sends first [] last = first ≡ last
Chain sends first (x ∷ xs) last = (mid : _) × sends first x mid × Chain sends mid xs last

-- the call of the client of the seat 0
abbrev pub action_of_call : Call → Action
action_of_call (Execute n asking c) = action.Client 0 n asking c
action_of_call (Look n) = action.Look 0 n

-- A world as a port: its client has the seat 0. A call is one step, and out of memory, the only fault, leaves the
-- world, and comes only where the call may take memory.
abbrev pub IsCalled : World → Call → Answer → World → Type 0
IsCalled w (Execute n asking c) (Ok r) next = Step w (event.Client 0 n asking c r) next
IsCalled w (Look n) (Ok r) next = Step w (event.Look 0 n r) next
IsCalled w call (Err Memory) next = (next ≡ w) × MayTakeMemory w (action_of_call call)
IsCalled w call (Err Io) next = ⊥
IsCalled w call (Err Wire) next = ⊥

abbrev pub IsSent : World → Send → World → Type 0
IsSent w s next = IsCalled w s.call s.answer next

-- A world as the administrator's port: out of memory is the only fault, and leaves the world.
abbrev pub IsAdminFault : World → ℕ → AdminCommand → PortFault → World → Type 0
IsAdminFault w n c Memory next = next ≡ w
IsAdminFault w n c Io next = ⊥
IsAdminFault w n c Wire next = ⊥
