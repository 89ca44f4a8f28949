-- What a plan does to the list of its seat.
use Rattle.std.specs.Prelude.{◌≡◌, ◌≢◌, ◌⊎◌, ℕ, List, [], ◌∷◌, ◌++◌, Some, is_some}
use Rattle.cluster_admin.specs.declared.admin.AdminCommand.{AdminCommand}
use Rattle.cluster_admin.specs.declared.admin.AdminReply.{AdminReply}
use Rattle.cluster_admin.specs.declared.call.AdminCall.{AdminCall}
use Rattle.cluster_admin.specs.declared.port_fault.PortFault.{PortFault}
use Rattle.cluster_admin.specs.declared.port_fault.PortFault.TheVariants as fault
pub use Rattle.plan_runner.specs.ProgressView.{waits}
use Rattle.plan_runner.specs.ProgressView.{Progress, Waits}
use Rattle.plan_semantics.specs.Orders.{sending}
use Rattle.plan_runner.specs.PlanStates.{plan_after}
use Rattle.byte_texts.specs.Outcomes.{Chain}
use Rattle.plan_semantics.specs.declared.order.Order.{Order}
use Rattle.plan_runner.specs.declared.plan_state.PlanState.{PlanState}
use Rattle.plan_runner.specs.declared.plan_state.PlanState.TheVariants as states
use Rattle.plan_runner.specs.declared.stop_cause.StopCause.{StopCause}
use Rattle.plan_runner.specs.declared.stop_cause.StopCause.TheVariants as causes
use Rattle.plan_runner.specs.declared.running.Finish.{Finish}
use Rattle.plan_runner.specs.declared.running.Finish.TheVariants as ends
use Rattle.plan_runner.specs.declared.running.Taken.{Taken}
use Rattle.plan_runner.specs.declared.running.Taken.TheVariants.{Running, Done, Stopped}

abbrev pub plan_of : {S : Type 0} → Taken S → PlanState
plan_of (Running r) = states.Running r.progress
plan_of (Done d) = states.Done d.spent
plan_of (Stopped s) = states.Stopped s.cause s.spent

abbrev pub seat_of : {S : Type 0} → Taken S → S
seat_of (Running r) = r.seat
seat_of (Done d) = d.seat
seat_of (Stopped s) = s.seat

-- why a plan stops whose port has no reply: out of memory, and nothing was done, or the reply was lost
abbrev pub stopped_by : PortFault → StopCause
stopped_by fault.Memory = causes.Memory
stopped_by fault.Io = causes.Lost
stopped_by fault.Wire = causes.Lost

-- what a port does: it answers a command, or it fails at one
pub record PortSteps (P : Type 0) : Type 1 where
  pub moves : P → AdminCall → P → Type 0
  pub fails : P → ℕ → AdminCommand → PortFault → P → Type 0

-- a port, and the calls on the list of its seat
pub record PortState (P : Type 0) : Type 0 where
  pub port : P
  pub calls : List AdminCall

-- From the port and its calls before to those after: nothing was left; or the next command was sent and its reply
-- taken; or the port failed at it
abbrev pub Sends : {P : Type 0} → PortSteps P → PortState P → PortState P → Progress → PlanState → Type 0
Sends {P} by first last p j =
    ((p.rest ≡ []) × (last.port ≡ first.port) × (last.calls ≡ first.calls) × (j ≡ states.Done p.spent))
    ⊎ ((s : Order) × (reply : AdminReply) × (sending p.rest p.listed ≡ Some s)
    × by.moves first.port (record { node = s.node; command = s.command; reply = reply }) last.port
    × (last.calls ≡ first.calls ++ record { node = s.node; command = s.command; reply = reply } ∷ [])
    × (j ≡ plan_after (waits p) reply))
    ⊎ ((s : Order) × (f : PortFault) × (sending p.rest p.listed ≡ Some s)
    × by.fails first.port s.node s.command f last.port
    × (last.calls ≡ first.calls) × (j ≡ states.Stopped (stopped_by f) p.spent))

abbrev pub end_of : {S : Type 0} → Finish S → PlanState
end_of (ends.Done d) = states.Done d.spent
end_of (ends.Stopped s) = states.Stopped s.cause s.spent

abbrev pub last_seat : {S : Type 0} → Finish S → S
last_seat (ends.Done d) = d.seat
last_seat (ends.Stopped s) = s.seat

-- the call is the next command of the plan
abbrev pub IsNext : Progress → AdminCall → Type 0
IsNext p c = (s : Order) × (sending p.rest p.listed ≡ Some s) × (c.node ≡ s.node) × (c.command ≡ s.command)

-- what holds of a plan that runs on, or of an end
abbrev pub runs_on : PlanState → (Progress → Type 0) → (PlanState → Type 0) → Type 0
runs_on (states.Running p) on at_end = on p
runs_on (states.Done spent) on at_end = at_end (states.Done spent)
runs_on (states.Stopped cause spent) on at_end = at_end (states.Stopped cause spent)

-- From the progress by these calls to this end: each call is the plan's next command as the calls before it left it
abbrev pub Goes : Progress → List AdminCall → PlanState → Type 0
Goes p [] end = ((p.rest ≡ []) × (end ≡ states.Done p.spent))
    ⊎ ((f : PortFault) × (p.rest ≢ []) × (end ≡ states.Stopped (stopped_by f) p.spent))
Goes p (c ∷ cs) end =
    IsNext p c × runs_on (plan_after (waits p) c.reply) (λ q. Goes q cs end) (λ j. (cs ≡ []) × (end ≡ j))

-- the command that is next after these calls, each of which was the plan's next command as the calls before it left it
abbrev pub IsPending : Progress → List AdminCall → Order → Type 0
IsPending p [] s = sending p.rest p.listed ≡ Some s
IsPending p (c ∷ cs) s = IsNext p c × runs_on (plan_after (waits p) c.reply) (λ q. IsPending q cs s) (λ j. ⊥)

-- A plan that stopped by a fault of the port met it at its next command; any other end leaves the port as the calls
-- left it
abbrev pub FaultShown : {P : Type 0} → (P → ℕ → AdminCommand → PortFault → P → Type 0) → P → P → (Order → Type 0)
    → PlanState → Type 0
FaultShown fails at last pending (states.Running q) = last ≡ at
FaultShown fails at last pending (states.Done spent) = last ≡ at
FaultShown fails at last pending (states.Stopped (causes.Refused number reason) spent) = last ≡ at
FaultShown fails at last pending (states.Stopped causes.Memory spent) = (s : Order) × pending s
    × fails at s.node s.command fault.Memory last
FaultShown fails at last pending (states.Stopped causes.Lost spent) =
    (s : Order) × (f : PortFault) × pending s × (stopped_by f ≡ causes.Lost) × fails at s.node s.command f last
FaultShown fails at last pending (states.Stopped causes.StrangeReply spent) = last ≡ at
FaultShown fails at last pending (states.Stopped causes.Abandoned spent) = last ≡ at
FaultShown fails at last pending (states.Stopped causes.Limit spent) = last ≡ at

-- By some calls, which stand at the end of the list, a plan came to this end and the port to this state
abbrev pub Runs : {P : Type 0} → PortSteps P → PortState P → PortState P → Progress → PlanState → Type 0
Runs {P} by first last p end =
    (cs : List AdminCall) × (at : P) × (last.calls ≡ first.calls ++ cs) × Goes p cs end
    × Chain by.moves first.port cs at × FaultShown by.fails at last.port (IsPending p cs) end
