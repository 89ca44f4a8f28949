-- What a line does where the administrator's seat is free.
use Rattle.std.specs.Prelude.{◌≡◌, ℕ, Bool, true, false, List, [], ◌∷◌, ◌++◌, length, Option, Result, Ok, Err}
use Rattle.std.specs.Prelude.{MatchResult}
use Rattle.resp2_wire.specs.Stream.{Words}
use Rattle.resp2_wire.specs.View.{tree}
use Rattle.resp2_wire.specs.declared.reply.Reply.{Reply}
use Rattle.cluster_admin.specs.declared.admin.AdminCommand.{AdminCommand}
use Rattle.cluster_world.specs.Commanding.{admin_reply}
use Rattle.cluster_admin.specs.declared.call.AdminCall.{AdminCall}
use Rattle.script_lines.specs.declared.fault.ScriptFault.{ScriptFault}
use Rattle.script_lines.specs.declared.fault.ScriptFault.TheVariants.{Seat}
use Rattle.script_lines.specs.declared.fault.Halt.{Halt}
use Rattle.script_lines.specs.declared.line.Line.{Line}
use Rattle.script_lines.specs.declared.line.Line.TheVariants.{Call, Admin, Step, Run, Honest, Abandon, Resume}
use Rattle.transcripts.specs.declared.transcript.Transcript.{Transcript}
use Rattle.rehearsal.specs.declared.stage.Stage.{Stage}
use Rattle.node_session.specs.Talk.{Lent}
use Rattle.plan_runner.specs.Advancing.{PortState}
use Rattle.rehearsal.specs.Answering.{IsReplied, put_at}
use Rattle.cluster_world.specs.Recorded.{Recorded, with_event, IsFirstNumber}
use Rattle.cluster_world.specs.RecordedPorts.{call_event}
use Rattle.script_lines.specs.Faults.{after}
use Rattle.script_lines.specs.Forms.{line_form}
use Rattle.transcripts.specs.Printing.{shown}
use Rattle.transcripts.specs.OutcomeTexts.{Prints, admin_text, honesty_text}
use Rattle.rehearsal.specs.Stages.{IsSeatFree, Halts}
use Rattle.rehearsal.specs.PlanReading.{with_line, Keeps}
use Rattle.rehearsal.specs.RecordedSteps.{seated}
use Rattle.rehearsal.specs.Resuming.{TakesUp}

-- ---- a request, an administrator's command, and whether all is honest so far

abbrev pub Answered : Lent Recorded → (asking : Bool) → Words → Transcript → Transcript → Type 0
Answered world asking request old new =
    (reply : Reply) × IsReplied world asking request (Ok reply) × Prints old new (shown 0 (tree reply)) old.status

-- the command at the node, with the reply that the world has for it
abbrev pub call_at : Recorded → ℕ → AdminCommand → AdminCall
call_at r n c = record { node = n; command = c; reply = admin_reply r.world n c }

abbrev pub Administered : PortState Recorded → (node : ℕ) → AdminCommand → Transcript → Transcript
    → PortState Recorded → Type 0
Administered first n c old new last =
    (last.port ≡ with_event first.port (call_event (call_at first.port n c)))
    × (last.calls ≡ first.calls ++ call_at first.port n c ∷ [])
    × Prints old new (admin_text (admin_reply first.port.world n c)) old.status

-- the first event that is not honest, if there is one
abbrev pub ReportsHonesty : Recorded → Transcript → Transcript → Type 0
ReportsHonesty r old new = (found : Option ℕ) × IsFirstNumber r found × Prints old new (honesty_text found) old.status

-- ---- a line where the seat is free: no plan is there to take a step, to be run or to be abandoned

abbrev pub free_line : Line → Result Line ScriptFault
free_line Step = Err Seat
free_line Run = Err Seat
free_line Abandon = Err Seat
free_line line = Ok line

abbrev pub DoesFree : Line → Recorded → List AdminCall → Transcript → Transcript → Stage → Type 0
DoesFree (Call n asking q) r s old new stage =
    IsSeatFree (λ next calls. (calls ≡ s) × Answered (put_at r n next) asking q old new) stage
DoesFree (Admin n c) r s old new stage =
    IsSeatFree (λ next calls. Administered (seated r s) n c old new (seated next calls)) stage
DoesFree Honest r s old new stage =
    IsSeatFree (λ next calls. (next ≡ r) × (calls ≡ s) × ReportsHonesty r old new) stage
DoesFree (Resume batch) r s old new stage = TakesUp batch r s old new stage
DoesFree line r s old new stage = ⊥

abbrev pub DoesForm : Result Line ScriptFault → Recorded → List AdminCall → Transcript → Transcript → Stage → Type 0
DoesForm (Ok x) r s old new stage = DoesFree x r s old new stage
DoesForm (Err f) r s old new stage = ⊥

abbrev pub PlaysFree : (begins : Bool) → PortState Recorded → List ℕ → Transcript → Transcript → Result Stage Halt
    → Type 0
PlaysFree true at line old new result = Keeps at.port at.calls (with_line [] line) old new result
PlaysFree false at line old new result =
    MatchResult result (DoesForm (line_form (length at.port.world.nodes) line) at.port at.calls old new)
    (Halts (after (line_form (length at.port.world.nodes) line) free_line) old new)
