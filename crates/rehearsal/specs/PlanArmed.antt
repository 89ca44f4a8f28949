-- What a line does beside an armed plan, which has the administrator's seat.
use Rattle.std.specs.Prelude.{◌≡◌, ◌≢◌, ℕ, cond, List, [], ◌∷◌, ◌++◌, length, Option, None, Some, Result, Ok, Err}
use Rattle.std.specs.Prelude.{MatchResult}
use Rattle.cluster_admin.specs.declared.call.AdminCall.{AdminCall}
use Rattle.plan_semantics.specs.Orders.{sending}
use Rattle.plan_semantics.specs.declared.order.Order.{Order}
use Rattle.plan_runner.specs.Advancing.{Runs, end_of, plan_of, last_seat, seat_of, waits}
use Rattle.plan_runner.specs.PlanStates.{plan_after}
use Rattle.plan_machine.specs.Quiet.{EndsQuietly}
use Rattle.plan_runner.specs.declared.running.RunningPlan.{RunningPlan}
use Rattle.plan_runner.specs.declared.running.Finish.{Finish}
use Rattle.plan_runner.specs.declared.running.Finish.TheVariants.{Done, Stopped}
use Rattle.plan_runner.specs.declared.running.Taken.{Taken}
use Rattle.plan_runner.specs.declared.running.Taken.TheVariants as taken
use Rattle.plan_runner.specs.declared.stop_cause.StopCause.TheVariants as stop
use Rattle.script_lines.specs.declared.fault.ScriptFault.{ScriptFault}
use Rattle.script_lines.specs.declared.fault.ScriptFault.TheVariants.{Seat}
use Rattle.script_lines.specs.declared.fault.Halt.{Halt}
use Rattle.script_lines.specs.declared.line.Line.{Line}
use Rattle.script_lines.specs.declared.line.Line.TheVariants.{Call, Admin, Step, Run, Honest, Abandon, Resume}
use Rattle.transcripts.specs.declared.transcript.Transcript.{Transcript}
use Rattle.rehearsal.specs.declared.plan_armed.Beside.{Beside}
use Rattle.rehearsal.specs.declared.plan_armed.Beside.TheVariants.{Played, Step as ToStep, Run as ToRun}
use Rattle.rehearsal.specs.declared.plan_armed.Beside.TheVariants.{Abandon as ToAbandon}
use Rattle.rehearsal.specs.declared.stage.Stage.{Stage}
use Rattle.script_lines.specs.Faults.{after}
use Rattle.script_lines.specs.Forms.{line_form}
use Rattle.transcripts.specs.CallTexts.{call_text}
use Rattle.rehearsal.specs.LastCalls.{last_text}
use Rattle.transcripts.specs.OutcomeTexts.{Prints, abandoned_text, done_text, stopped_text}
use Rattle.cluster_world.specs.Recorded.{Recorded, with_event}
use Rattle.cluster_world.specs.RecordedPorts.{call_event}
use Rattle.rehearsal.specs.Stages.{IsSeatFree, IsPlanArmed, Halts}
use Rattle.rehearsal.specs.PlanReading.{is_header}
use Rattle.rehearsal.specs.RecordedSteps.{recorded_steps, seated}
use Rattle.rehearsal.specs.Answering.{put_at}
use Rattle.rehearsal.specs.SeatFree.{Answered, ReportsHonesty, call_at}

abbrev pub armed_line : Line → Result Line ScriptFault
armed_line (Admin n c) = Err Seat
armed_line (Resume batch) = Err Seat
armed_line line = Ok line

abbrev pub armed_form : ℕ → List ℕ → Result Line ScriptFault
armed_form nodes line = cond (is_header line) (Err Seat) (after (line_form nodes line) armed_line)

-- ---- `run`

-- how a plan ended; where memory ran out, the rehearsal halts
abbrev pub Reports : Finish (List AdminCall) → Transcript → Transcript → Type 0
Reports (Done d) old new = Prints old new (done_text d.spent) old.status
Reports (Stopped s) old new = (s.cause ≢ stop.Memory) × Prints old new (stopped_text s.spent s.cause) 1

-- A run by calls that are those of the plan, one after the other, and each of which is the next event on the trail.
abbrev pub RunsTo : Recorded → RunningPlan (List AdminCall) → Finish (List AdminCall) → Recorded → Type 0
RunsTo r p finish next =
    Runs recorded_steps (seated r p.seat) (seated next (last_seat finish)) p.progress (end_of finish)
    × EndsQuietly r.world next.world p.progress p.seat (last_seat finish) (end_of finish)

abbrev pub Ran : Recorded → RunningPlan (List AdminCall) → Transcript → Transcript → Recorded → List AdminCall → Type 0
Ran r p old new next calls =
    (finish : Finish (List AdminCall)) × RunsTo r p finish next × (calls ≡ last_seat finish) × Reports finish old new

-- ---- `step`

-- the last command with its reply was printed, and then how the plan ended
abbrev pub EndsStep : Finish (List AdminCall) → (text : List ℕ) → Transcript → Transcript → Type 0
EndsStep (Done d) text old new = Prints old new (text ++ done_text d.spent) old.status
EndsStep (Stopped s) text old new =
    (s.cause ≢ stop.Memory) × Prints old new (text ++ stopped_text s.spent s.cause) 1

-- so ended, in this world
abbrev pub Ended : Recorded → Finish (List AdminCall) → Transcript → Transcript → Stage → Type 0
Ended r finish old new stage =
    IsSeatFree (λ next calls. (next ≡ r) × (calls ≡ last_seat finish) × EndsStep finish (last_text r.events) old new)
    stage

-- the plan continues or has ended, in this world, and this text was printed of the call
abbrev pub GoesTo : Taken (List AdminCall) → Recorded → (text : List ℕ) → Transcript → Transcript → Stage → Type 0
GoesTo (taken.Running p) r text old new stage =
    IsPlanArmed (λ next plan. (next ≡ r) × (plan ≡ p) × Prints old new text old.status) stage
GoesTo (taken.Done d) r text old new stage =
    IsSeatFree (λ next calls. (next ≡ r) × (calls ≡ d.seat) × Prints old new (text ++ done_text d.spent) old.status)
    stage
GoesTo (taken.Stopped s) r text old new stage =
    IsSeatFree (λ next calls. (next ≡ r) × (calls ≡ s.seat)
    × Prints old new (text ++ stopped_text s.spent s.cause) 1) stage

-- the call, with the reply that the world has for it, is the next event; its reply says how the plan continues
abbrev pub StepsBy : AdminCall → Recorded → RunningPlan (List AdminCall) → Transcript → Transcript → Stage → Type 0
StepsBy c r p old new stage =
    (given : Taken (List AdminCall)) × (plan_of given ≡ plan_after (waits p.progress) c.reply)
    × (seat_of given ≡ p.seat ++ c ∷ []) × GoesTo given (with_event r (call_event c)) (call_text c) old new stage

-- the next command of the plan is sent; a plan at its end is run
abbrev pub Steps : Option Order → Recorded → RunningPlan (List AdminCall) → Transcript → Transcript → Stage → Type 0
Steps None r p old new stage = IsSeatFree (Ran r p old new) stage
Steps (Some o) r p old new stage = StepsBy (call_at r o.node o.command) r p old new stage

abbrev pub Stepped : Recorded → RunningPlan (List AdminCall) → Transcript → Transcript → Stage → Type 0
Stepped r p old new stage = Steps (sending p.progress.rest p.progress.listed) r p old new stage

-- ---- `abandon`

-- the world is as the plan left it, and the seat has the plan's calls
abbrev pub IsAbandoned : Recorded → RunningPlan (List AdminCall) → Transcript → Transcript → Recorded → List AdminCall
    → Type 0
IsAbandoned r p old new next calls =
    (next ≡ r) × (calls ≡ p.seat) × Prints old new (abandoned_text p.progress.spent) old.status

-- ---- any line

-- what a line did that left the plan as it was: a request was answered, or nothing was done before the plan continues
abbrev pub DoesBeside : Result Line ScriptFault → Recorded → Transcript → Transcript → Recorded → Beside → Type 0
DoesBeside (Ok (Call n asking q)) r old new next beside =
    (beside ≡ Played) × Answered (put_at r n next) asking q old new
DoesBeside (Ok Step) r old new next beside = (beside ≡ ToStep) × (next ≡ r) × (new ≡ old)
DoesBeside (Ok Run) r old new next beside = (beside ≡ ToRun) × (next ≡ r) × (new ≡ old)
DoesBeside (Ok Abandon) r old new next beside = (beside ≡ ToAbandon) × (next ≡ r) × (new ≡ old)
DoesBeside (Ok Honest) r old new next beside = (beside ≡ Played) × (next ≡ r) × ReportsHonesty r old new
DoesBeside line r old new next beside = ⊥

abbrev pub DoesArmed : Result Line ScriptFault → Recorded → RunningPlan (List AdminCall) → Transcript → Transcript
    → Stage → Type 0
DoesArmed (Ok (Call n asking q)) r p old new stage =
    IsPlanArmed (λ next plan. (plan ≡ p) × Answered (put_at r n next) asking q old new) stage
DoesArmed (Ok Step) r p old new stage = Stepped r p old new stage
DoesArmed (Ok Run) r p old new stage = IsSeatFree (Ran r p old new) stage
DoesArmed (Ok Abandon) r p old new stage = IsSeatFree (IsAbandoned r p old new) stage
DoesArmed (Ok Honest) r p old new stage =
    IsPlanArmed (λ next plan. (next ≡ r) × (plan ≡ p) × ReportsHonesty r old new) stage
DoesArmed line r p old new stage = ⊥

abbrev pub PlaysArmed : Recorded → RunningPlan (List AdminCall) → List ℕ → Transcript → Transcript
    → Result Stage Halt → Type 0
PlaysArmed r p line old new result =
    MatchResult result (DoesArmed (armed_form (length r.world.nodes) line) r p old new)
    (Halts (armed_form (length r.world.nodes) line) old new)
