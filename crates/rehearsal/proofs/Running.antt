-- A plan that continues over a recorded world: what holds of the world alone, and of its trail.
use Rattle.std.proofs.Common.{◌≡◌, ◌≢◌, ℕ, List, [], ◌∷◌, ◌++◌, Option, None, Some, refl, sym, ap, subst, ◌∙◌, inl, inr}
use Rattle.byte_texts.specs.Outcomes.{Chain}
use Rattle.cluster_admin.specs.declared.admin.AdminCommand.{AdminCommand}
use Rattle.cluster_world.specs.Commanding.{admin_reply}
use Rattle.cluster_world.specs.Ports.{IsAdminFault}
use Rattle.cluster_world.specs.Steps.{by_call as by_world}
use Rattle.cluster_admin.specs.declared.call.AdminCall.{AdminCall}
use Rattle.cluster_world.specs.declared.event.Event.{Event}
use Rattle.cluster_admin.specs.declared.port_fault.PortFault.{PortFault}
use Rattle.cluster_admin.specs.declared.port_fault.PortFault.TheVariants as fault
use Rattle.plan_semantics.specs.Orders.{sending}
use Rattle.plan_semantics.specs.declared.order.Order.{Order}
use Rattle.plan_runner.specs.Advancing.{FaultShown, IsPending, Runs, Sends, end_of, plan_of, last_seat, seat_of, waits}
use Rattle.plan_runner.specs.PlanStates.{plan_after}
use Rattle.plan_runner.specs.ProgressView.{Progress}
use Rattle.plan_machine.specs.Quiet.{RunsQuietly}
use Rattle.plan_runner.specs.declared.running.Finish.{Finish}
use Rattle.plan_runner.specs.declared.running.Finish.TheVariants as ends
use Rattle.plan_runner.specs.declared.running.RunningPlan.{RunningPlan}
use Rattle.plan_runner.specs.declared.running.Taken.{Taken}
use Rattle.plan_runner.specs.declared.running.Taken.TheVariants as taken
use Rattle.plan_runner.specs.declared.stop_cause.StopCause.{StopCause}
use Rattle.plan_runner.specs.declared.stop_cause.StopCause.TheVariants as causes
use Rattle.transcripts.specs.declared.transcript.Transcript.{Transcript}
use Rattle.rehearsal.specs.declared.stage.Stage.{Stage}
use Rattle.transcripts.specs.CallTexts.{call_text}
use Rattle.rehearsal.specs.LastCalls.{event_text, last_text}
use Rattle.rehearsal.specs.PlanArmed.{GoesTo, Ran, Reports, Stepped}
use Rattle.cluster_world.specs.Recorded.{Recorded, IsRecord, with_event}
use Rattle.cluster_world.specs.RecordedPorts.{KeepsAll, by_call, call_event}
use Rattle.rehearsal.specs.RecordedSteps.{recorded_steps, seated}
use Rattle.rehearsal.specs.SeatFree.{call_at}
use Rattle.cluster_world.proofs.Recording.{recorded}

-- ---- a run of calls

chain_recorded : (r at : Recorded) (cs : List AdminCall) → IsRecord r → Chain by_call r cs at → IsRecord at
chain_recorded r at [] k e = rw e k
chain_recorded r at (c ∷ cs) k (mid, p, rest) = chain_recorded mid at cs (recorded r mid (call_event c) k p) rest

chain_world : (r at : Recorded) (cs : List AdminCall) → Chain by_call r cs at → Chain by_world r.world cs at.world
chain_world r at [] e = ap (λ (x : Recorded). x.world) e
chain_world r at (c ∷ cs) (mid, p, rest) =
    (mid.world, (p.1, ap (λ (x : Recorded). x.world) p.2), chain_world mid at cs rest)

-- a fault of the port, which is out of memory, leaves all as it is
fault_same : (at last : Recorded) (pending : Order → Type 0) (finish : Finish (List AdminCall))
    → FaultShown KeepsAll at last pending (end_of finish) → last ≡ at
fault_same at last pending (ends.Done d) e = e
fault_same at last pending (ends.Stopped x) e = by x.cause e
  where
    by : (cause : StopCause) → FaultShown KeepsAll at last pending (end_of (ends.Stopped (record x { cause = cause })))
        → last ≡ at
    by (causes.Refused number reason) e = e
    by causes.Memory (s, p, e) = e
    by causes.Lost (s, fault.Memory, p, is, e) = e
    by causes.Lost (s, fault.Io, p, is, e) = absurd e
    by causes.Lost (s, fault.Wire, p, is, e) = absurd e
    by causes.StrangeReply e = e
    by causes.Abandoned e = e
    by causes.Limit e = e

fault_world : (at last : Recorded) (pending : Order → Type 0) (finish : Finish (List AdminCall))
    → FaultShown KeepsAll at last pending (end_of finish)
    → FaultShown IsAdminFault at.world last.world pending (end_of finish)
fault_world at last pending (ends.Done d) e = ap (λ (x : Recorded). x.world) e
fault_world at last pending (ends.Stopped x) e = by x.cause e
  where
    by : (cause : StopCause) → FaultShown KeepsAll at last pending (end_of (ends.Stopped (record x { cause = cause })))
        → FaultShown IsAdminFault at.world last.world pending (end_of (ends.Stopped (record x { cause = cause })))
    by (causes.Refused number reason) e = ap (λ (x : Recorded). x.world) e
    by causes.Memory (s, p, e) = (s, p, ap (λ (x : Recorded). x.world) e)
    by causes.Lost (s, fault.Memory, p, is, e) = (s, fault.Memory, p, is, ap (λ (x : Recorded). x.world) e)
    by causes.Lost (s, fault.Io, p, is, e) = absurd e
    by causes.Lost (s, fault.Wire, p, is, e) = absurd e
    by causes.StrangeReply e = ap (λ (x : Recorded). x.world) e
    by causes.Abandoned e = ap (λ (x : Recorded). x.world) e
    by causes.Limit e = ap (λ (x : Recorded). x.world) e

pub run_recorded : (r next : Recorded) (p : Progress) (before after : List AdminCall)
    (finish : Finish (List AdminCall)) → IsRecord r → Runs recorded_steps (seated r before) (seated next after) p (end_of finish)
    → IsRecord next
run_recorded r next p before after finish k (cs, at, e, goes, chain, shown) =
    rw (fault_same at next (IsPending p cs) finish shown) (chain_recorded r at cs k chain)

run_world : (r next : Recorded) (p : Progress) (before after : List AdminCall) (finish : Finish (List AdminCall))
    → Runs recorded_steps (seated r before) (seated next after) p (end_of finish)
    → Runs (record { moves = by_world; fails = IsAdminFault }) (record { port = r.world; calls = before }) (record { port = next.world; calls = after }) p (end_of finish)
run_world r next p before after finish (cs, at, e, goes, chain, shown) =
    (cs, at.world, e, goes, chain_world r at cs chain, fault_world at next (IsPending p cs) finish shown)

pub ran : (r next : Recorded) (p : RunningPlan (List AdminCall)) (finish : Finish (List AdminCall))
    (calls : List AdminCall) (old new : Transcript) → RunsQuietly
    → Runs recorded_steps (seated r p.seat) (seated next (last_seat finish)) p.progress (end_of finish)
    → (calls ≡ last_seat finish) × Reports finish old new → Ran r p old new next calls
ran r next p finish calls old new quietly runs reported =
    let seat = last_seat finish in
    let quiet =
    quietly r.world next.world p.progress p.seat seat (end_of finish)
    (run_world r next p.progress p.seat seat finish runs) in
    (finish, (runs, quiet), reported.0, reported.1)

-- ---- one step

pub last_on : (es : List Event) (e : Event) → last_text (es ++ e ∷ []) ≡ event_text e
last_on [] e = refl
last_on (x ∷ []) e = refl
last_on (x ∷ y ∷ es) e = last_on (y ∷ es) e

one_order : (a b : Order) → ◌≡◌ {A = Option Order} (Some a) (Some b) → a ≡ b
one_order a b e = ap of e
  where
    of : Option Order → Order
    of (Some x) = x
    of None = a

-- memory did not stop the plan
abbrev pub HasMemory : Taken (List AdminCall) → Type 0
HasMemory (taken.Running p) = Unit {0}
HasMemory (taken.Done d) = Unit {0}
HasMemory (taken.Stopped s) = s.cause ≢ causes.Memory

-- the next command was sent, and its call is the next event
record Went (r next : Recorded) (p : Progress) (o : Order) (before : List AdminCall) (t : Taken (List AdminCall))
    : Type 0 where
  next_is : next ≡ with_event r (call_event (call_at r o.node o.command))
  calls_are : seat_of t ≡ before ++ call_at r o.node o.command ∷ []
  state : plan_of t ≡ plan_after (waits p) (admin_reply r.world o.node o.command)

-- a plan that memory stopped has that cause
abbrev memory_stop : ℕ → List AdminCall → Taken (List AdminCall)
memory_stop n seat = taken.Stopped (record { seat = seat; cause = causes.Memory; spent = n })

abbrev Other : ℕ → ℕ → AdminCommand → PortFault → ℕ → Type 0
Other at n c f last = f ≡ fault.Io

other : (o : Order) (seat : List AdminCall) (n : ℕ) (cause : StopCause) → cause ≢ causes.Memory
    → FaultShown Other 0 0 (λ x. Unit {0})
    (plan_of (taken.Stopped (record { seat = seat; cause = cause; spent = n })))
other o seat n (causes.Refused number reason) h = refl
other o seat n causes.Memory h = absurd (h refl)
other o seat n causes.Lost h = (o, fault.Io, tt, refl, refl)
other o seat n causes.StrangeReply h = refl
other o seat n causes.Abandoned h = refl
other o seat n causes.Limit h = refl

none_shown : FaultShown Other 0 0 (λ x. Unit {0}) (plan_of (memory_stop 0 [])) → ⊥
none_shown (o, p, e) = absurd cc

stopped_for_memory : (o : Order) (t : Taken (List AdminCall)) (n : ℕ) (seat : List AdminCall)
    → plan_of t ≡ plan_of (memory_stop n seat) → HasMemory t → ⊥
stopped_for_memory o (taken.Running p) n seat e h = absurd cc
stopped_for_memory o (taken.Done d) n seat e h = absurd cc
stopped_for_memory o (taken.Stopped s) n seat e h =
    none_shown (subst (λ j. FaultShown Other 0 0 (λ x. Unit {0}) j) e (other o s.seat s.spent s.cause h))

went : (r next : Recorded) (p : Progress) (o : Order) (before : List AdminCall) (t : Taken (List AdminCall))
    → Sends recorded_steps (seated r before) (seated next (seat_of t)) p (plan_of t) → sending p.rest p.listed ≡ Some o
    → HasMemory t → Went r next p o before t
went r next p o before t (inl (none, same, calls, state)) is has = absurd (ended (rw none at is))
  where
    ended : ◌≡◌ {A = Option Order} None (Some o) → ⊥
    ended e = absurd cc
went r next p o before t (inr (inl (s, reply, is_s, moves, calls, state))) is has =
    let same : s ≡ o = one_order s o (sym is_s ∙ is) in
    let reply_is : reply ≡ admin_reply r.world o.node o.command = rw same at moves.1.1 in
    record {
      next_is = rw (same, reply_is) at moves.2;
      calls_are = rw (same, reply_is) at calls;
      state = rw reply_is at state;
    }
went r next p o before t (inr (inr (s, fault.Memory, is_s, fails, calls, state))) is has =
    absurd (stopped_for_memory o t p.spent (seat_of t) state has)
went r next p o before t (inr (inr (s, fault.Io, is_s, fails, calls, state))) is has = absurd fails
went r next p o before t (inr (inr (s, fault.Wire, is_s, fails, calls, state))) is has = absurd fails

-- what a step prints and leaves is what the reply of the world makes of the plan
pub stepped : (r next : Recorded) (p : RunningPlan (List AdminCall)) (o : Order) (t : Taken (List AdminCall))
    (old new : Transcript) (stage : Stage)
    → Sends recorded_steps (seated r p.seat) (seated next (seat_of t)) p.progress (plan_of t)
    → sending p.progress.rest p.progress.listed ≡ Some o → HasMemory t
    → GoesTo t next (last_text next.events) old new stage → Stepped r p old new stage
stepped r next p o t old new stage sends is has goes =
    let w = went r next p.progress o p.seat t sends is has in
    let c = call_at r o.node o.command in
    let text : last_text next.events ≡ call_text c =
    ap (λ (x : Recorded). last_text x.events) w.next_is ∙ last_on r.events (call_event c) in
    rw is (t, w.state, w.calls_are, rw (text, w.next_is) at goes)
