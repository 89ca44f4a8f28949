-- A recorded world as a port: each call that is answered is one event. Out of memory, the only fault, changes nothing.
use Rattle.std.specs.Prelude.{◌≡◌, ℕ, Ok, Err}
use Rattle.cluster_admin.specs.declared.admin.AdminCommand.{AdminCommand}
use Rattle.cluster_admin.specs.declared.admin.AdminReply.{AdminReply}
use Rattle.cluster_world.specs.Ports.{Call, Execute, Look, Answer, Send}
use Rattle.cluster_world.specs.Steps.{Answers}
use Rattle.cluster_admin.specs.declared.call.AdminCall.{AdminCall}
use Rattle.cluster_world.specs.declared.event.Event.{Event}
use Rattle.cluster_world.specs.declared.event.Event.TheVariants as event
use Rattle.cluster_admin.specs.declared.port_fault.PortFault.{PortFault}
use Rattle.cluster_admin.specs.declared.port_fault.PortFault.TheVariants.{Memory, Io, Wire}
use Rattle.cluster_world.specs.declared.recorded.Sent.TheVariants as sent
use Rattle.cluster_world.specs.declared.recorded_ports.Replies.{Replies}
use Rattle.cluster_world.specs.Recorded.{Recorded, Puts, held, sent_event}

-- ---- a client's calls: its seat is 0

-- the call with its reply is on the trail
abbrev pub PutsCall : Recorded → Call → Answer → Recorded → Type 0
PutsCall r (Execute n asking c) (Ok reply) next = Puts r (event.Client 0 n asking c reply) next
PutsCall r (Look n) (Ok reply) next = Puts r (event.Look 0 n reply) next
PutsCall r call (Err Memory) next = next ≡ r
PutsCall r call (Err Io) next = ⊥
PutsCall r call (Err Wire) next = ⊥

abbrev pub IsPut : Recorded → Send → Recorded → Type 0
IsPut r s next = PutsCall r s.call s.answer next

-- the call was answered, and waits to be put on the trail
abbrev pub HoldsCall : Recorded → Call → Answer → Recorded → Type 0
HoldsCall r (Execute n asking c) (Ok reply) next =
    Answers r.world (sent_event (sent.Command n asking c) reply) × (next ≡ held r (sent.Command n asking c) reply)
HoldsCall r (Look n) (Ok reply) next =
    Answers r.world (sent_event (sent.Look n) reply) × (next ≡ held r (sent.Look n) reply)
HoldsCall r call (Err Memory) next = next ≡ r
HoldsCall r call (Err Io) next = ⊥
HoldsCall r call (Err Wire) next = ⊥

abbrev pub IsHeld : Recorded → Send → Recorded → Type 0
IsHeld r s next = HoldsCall r s.call s.answer next

-- ---- the administrator's calls

abbrev pub call_event : AdminCall → Event
call_event c = event.Admin c.node c.command c.reply

abbrev pub by_call : Recorded → AdminCall → Recorded → Type 0
by_call r c next = Puts r (call_event c) next

abbrev pub KeepsAll : Recorded → ℕ → AdminCommand → PortFault → Recorded → Type 0
KeepsAll r n c Memory next = next ≡ r
KeepsAll r n c Io next = ⊥
KeepsAll r n c Wire next = ⊥

-- the reply, and its copies
abbrev pub AreReplies : AdminReply → Replies → Type 0
AreReplies reply x = (x.answer ≡ reply) × (x.of_the_trail ≡ reply) × (x.of_the_seat ≡ reply)
