-- What comes of a plan that took a step: the stage that is left, and that its trail is still a run.
use Rattle.std.proofs.Common.{◌≡◌, true, Bor, List, length, Option, None, Some, Result, Ok, Err}
use Rattle.std.proofs.Common.{refl, sym, ◌∙◌, inl, inr}
use Rattle.std.proofs.lemmas.Bool.{true≢false}
use Rattle.std.specs.Prelude.{MatchOption, MatchResult, OnOk, IfOk, is_some}
use Rattle.cluster_admin.specs.declared.call.AdminCall.{AdminCall}
use Rattle.cluster_admin.specs.declared.port_fault.PortFault.TheVariants as fault
use Rattle.plan_semantics.specs.Orders.{sending}
use Rattle.plan_semantics.specs.declared.order.Order.{Order}
use Rattle.plan_runner.specs.Advancing.{Sends, plan_of, seat_of}
use Rattle.plan_runner.specs.ProgressView.{Progress}
use Rattle.plan_runner.specs.declared.running.DonePlan.{DonePlan}
use Rattle.plan_runner.specs.declared.running.Finish.TheVariants as ends
use Rattle.plan_runner.specs.declared.running.RunningPlan.{RunningPlan}
use Rattle.plan_runner.specs.declared.running.StoppedPlan.{StoppedPlan}
use Rattle.plan_runner.specs.declared.running.Taken.{Taken}
use Rattle.plan_runner.specs.declared.running.Taken.TheVariants as taken
use Rattle.plan_runner.proofs.Going.{run_on, sends_on}
use Rattle.script_lines.specs.declared.fault.Halt.{Halt}
use Rattle.script_lines.specs.declared.fault.Halt.TheVariants.{Memory}
use Rattle.transcripts.specs.declared.transcript.Transcript.{Transcript}
use Rattle.rehearsal.specs.declared.stage.Stage.{Stage}
use Rattle.rehearsal.specs.declared.stage.Stage.TheVariants.{NoClusterYet, SeatFree, ReadingPlan, PlanArmed}
use Rattle.rehearsal.specs.ArmedPlans.{IsUnderway}
use Rattle.rehearsal.specs.LastCalls.{last_text}
use Rattle.transcripts.specs.OutcomeTexts.{Prints}
use Rattle.rehearsal.specs.PlanArmed.{Ended, Stepped}
use Rattle.cluster_world.specs.Recorded.{Recorded, IsRecord}
use Rattle.cluster_world.specs.RecordedPorts.{call_event}
use Rattle.rehearsal.specs.RecordedSteps.{recorded_steps, seated}
use Rattle.rehearsal.specs.Stages.{IsArmedIn, IsStage}
use Rattle.cluster_world.proofs.Recording.{recorded}
use Rattle.rehearsal.proofs.Running.{stepped}

-- ---- the next command

pub next_is : (p : Progress) (next : Option (Bor Order)) → is_some next ≡ true
    → MatchOption next (sending p.rest p.listed ≡ None) (λ s. sending p.rest p.listed ≡ Some s.now)
    → (o : Order) × (sending p.rest p.listed ≡ Some o)
next_is p None e m = absurd (true≢false (sym e))
next_is p (Some s) e m = (s.now, m)

-- ---- the trail and the plan after a command

pub sent_recorded : (r next : Recorded) (p : Progress) (before : List AdminCall) (t : Taken (List AdminCall))
    → IsRecord r → Sends recorded_steps (seated r before) (seated next (seat_of t)) p (plan_of t) → IsRecord next
sent_recorded r next p before t k (inl (none, same, calls, state)) = rw same k
sent_recorded r next p before t k (inr (inl (s, reply, is, moves, calls, state))) =
    recorded r next (call_event (record { node = s.node; command = s.command; reply = reply })) k moves
sent_recorded r next p before t k (inr (inr (s, fault.Memory, is, same, calls, state))) = rw same k
sent_recorded r next p before t k (inr (inr (s, fault.Io, is, fails, calls, state))) = absurd fails
sent_recorded r next p before t k (inr (inr (s, fault.Wire, is, fails, calls, state))) = absurd fails

pub still_armed : (r next : Recorded) (p q : RunningPlan (List AdminCall)) → IsArmedIn r p
    → length next.world.nodes ≡ length r.world.nodes
    → Sends recorded_steps (seated r p.seat) (seated next q.seat) p.progress (plan_of (taken.Running q)) → IsArmedIn next q
still_armed r next p q armed count sends =
    let state = plan_of (taken.Running q) in
    let s = sends_on recorded_steps r next p.progress q.progress p.seat q.seat state refl sends in
    count ∙ armed ∙ sym (run_on p.progress q.progress s.0.reply s.2).0

-- ---- the stage after it

pub armed_kept : {E : Type 0} (next : Recorded) (q : RunningPlan (List AdminCall)) (printed : Result (Unit {0}) E)
    (result : Result Stage Halt) → IsRecord next → IsArmedIn next q → IsUnderway next q.progress
    → MatchResult printed (λ _. result ≡ Ok (PlanArmed next q)) (λ _. result ≡ Err Memory) → IfOk result IsStage
armed_kept next q (Ok u) result k armed underway is = rw is (k, armed, underway)
armed_kept next q (Err e) result k armed underway is = rw is tt

-- ---- what the step did

module _ (r next : Recorded) (p : RunningPlan (List AdminCall)) (o : Order) (old new : Transcript)
    (result : Result Stage Halt) (is : sending p.progress.rest p.progress.listed ≡ Some o) where
  pub stepped_on : {E : Type 0} (q : RunningPlan (List AdminCall)) (printed : Result (Unit {0}) E)
      → Sends recorded_steps (seated r p.seat) (seated next q.seat) p.progress (plan_of (taken.Running q))
      → OnOk printed (Prints old new (last_text next.events) old.status)
      → MatchResult printed (λ _. result ≡ Ok (PlanArmed next q)) (λ _. result ≡ Err Memory)
      → MatchResult result (Stepped r p old new) (λ h. h ≡ Memory)
  stepped_on q (Ok u) sends prints goes =
      rw goes (stepped r next p o (taken.Running q) old new (PlanArmed next q) sends is tt (refl, refl, prints))
  stepped_on q (Err e) sends prints goes = rw goes refl

pub stepped_done : (r next : Recorded) (p : RunningPlan (List AdminCall)) (o : Order) (old new : Transcript)
    (result : Result Stage Halt) (d : DonePlan (List AdminCall)) → sending p.progress.rest p.progress.listed ≡ Some o
    → Sends recorded_steps (seated r p.seat) (seated next d.seat) p.progress (plan_of (taken.Done d))
    → MatchResult result (Ended next (ends.Done d) old new) (λ h. h ≡ Memory)
    → MatchResult result (Stepped r p old new) (λ h. h ≡ Memory)
stepped_done r next p o old new (Ok stage) d is sends m = stepped r next p o (taken.Done d) old new stage sends is tt m
stepped_done r next p o old new (Err h) d is sends m = m

pub stepped_stop : (r next : Recorded) (p : RunningPlan (List AdminCall)) (o : Order) (old new : Transcript)
    (result : Result Stage Halt) (x : StoppedPlan (List AdminCall))
    → sending p.progress.rest p.progress.listed ≡ Some o
    → Sends recorded_steps (seated r p.seat) (seated next x.seat) p.progress (plan_of (taken.Stopped x))
    → MatchResult result (Ended next (ends.Stopped x) old new) (λ h. h ≡ Memory)
    → MatchResult result (Stepped r p old new) (λ h. h ≡ Memory)
stepped_stop r next p o old new (Ok NoClusterYet) x is sends m = absurd m
stepped_stop r next p o old new (Ok (SeatFree n s)) x is sends m =
    stepped r next p o (taken.Stopped x) old new (SeatFree n s) sends is m.2.0 (m.0, m.1, m.2.1)
stepped_stop r next p o old new (Ok (ReadingPlan n s t)) x is sends m = absurd m
stepped_stop r next p o old new (Ok (PlanArmed n q)) x is sends m = absurd m
stepped_stop r next p o old new (Err h) x is sends m = m
