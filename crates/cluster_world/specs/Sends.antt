-- What clients send through ports, and the events of a run: over a world the sends of a port are a run.
use Rattle.std.specs.Prelude.{◌≡◌, ◌↔◌, ℕ, List, [], ◌∷◌, ◌++◌, Ok, Err}
use Rattle.cluster_world.specs.Worlds.{World}
use Rattle.cluster_world.specs.Earning.{world_after}
use Rattle.cluster_world.specs.Steps.{MayTakeMemory, Run}
use Rattle.cluster_world.specs.Ports.{Call, Answer, Send, Execute, Look, Chain, IsSent, action_of_call}
use Rattle.cluster_world.specs.declared.event.Event.{Event}
use Rattle.cluster_world.specs.declared.event.Event.TheVariants as event
use Rattle.cluster_admin.specs.declared.port_fault.PortFault.TheVariants.{Memory, Io, Wire}

-- what a call of this seat leaves in a run: the event of its reply, or nothing where it has none
abbrev pub event_of : (seat : ℕ) → Call → Answer → List Event
event_of seat (Execute n asking c) (Ok r) = event.Client seat n asking c r ∷ []
event_of seat (Look n) (Ok r) = event.Look seat n r ∷ []
event_of seat call (Err f) = []

abbrev pub events_of : (seat : ℕ) → List Send → List Event
events_of seat [] = []
events_of seat (x ∷ xs) = event_of seat x.call x.answer ++ events_of seat xs

-- what clients sent, of all seats, with the replies
abbrev pub sends_in : List Event → List Send
sends_in [] = []
sends_in (event.Client seat n asking c r ∷ es) = record { call = Execute n asking c; answer = Ok r } ∷ sends_in es
sends_in (event.Look seat n r ∷ es) = record { call = Look n; answer = Ok r } ∷ sends_in es
sends_in (event.Admin n c r ∷ es) = sends_in es

-- out of memory, where the call may take memory, is the one fault that a world has
abbrev pub IsWorldAnswer : World → Call → Answer → Type 0
IsWorldAnswer w call (Ok r) = Unit {0}
IsWorldAnswer w call (Err Memory) = MayTakeMemory w (action_of_call call)
IsWorldAnswer w call (Err Io) = ⊥
IsWorldAnswer w call (Err Wire) = ⊥

abbrev pub AreWorldAnswers : World → List Send → Type 0
AreWorldAnswers w [] = Unit {0}
AreWorldAnswers w (x ∷ xs) =
    IsWorldAnswer w x.call x.answer × AreWorldAnswers (world_after w (event_of 0 x.call x.answer)) xs

-- A world as a port goes from one state to another by some sends exactly where their events, which are of the seat 0,
-- are a run between these.
abbrev pub SendsAreRuns : Type 0
SendsAreRuns = (first : World) (sends : List Send) (last : World) → Chain IsSent first sends last
    ↔ (AreWorldAnswers first sends × Run first (events_of 0 sends) last)

abbrev pub send_of : Call → Answer → List Send
send_of call (Ok r) = record { call = call; answer = Ok r } ∷ []
send_of call (Err f) = []

abbrev pub answered_sends : List Send → List Send
answered_sends [] = []
answered_sends (x ∷ xs) = send_of x.call x.answer ++ answered_sends xs

-- the events of sends tell those that have a reply, and nothing else
abbrev pub EventsTellSends : Type 0
EventsTellSends = (seat : ℕ) (sends : List Send) → sends_in (events_of seat sends) ≡ answered_sends sends
