-- What one line of a script does to a rehearsal, and what the script's end does.
use Rattle.std.specs.Prelude.{◌≡◌, ℕ, List, [], Option, None, Some, Result, Ok, MatchResult}
use Rattle.cluster_admin.specs.declared.call.AdminCall.{AdminCall}
use Rattle.plan_language.specs.Texts.{plan_of_text}
use Rattle.script_lines.specs.declared.fault.Halt.{Halt}
use Rattle.script_lines.specs.declared.fault.Halt.TheVariants.{Memory}
use Rattle.transcripts.specs.declared.transcript.Transcript.{Transcript}
use Rattle.rehearsal.specs.declared.stage.Stage.{Stage}
use Rattle.rehearsal.specs.declared.stage.Stage.TheVariants.{NoClusterYet, SeatFree, ReadingPlan, PlanArmed}
use Rattle.script_lines.specs.Faults.{IsHaltOf}
use Rattle.script_lines.specs.Forms.{opening}
use Rattle.rehearsal.specs.Opening.{IsOpened}
use Rattle.cluster_world.specs.Recorded.{Recorded}
use Rattle.transcripts.specs.OutcomeTexts.{Prints, unfinished_text}
use Rattle.rehearsal.specs.Stages.{IsSeatFree}
use Rattle.rehearsal.specs.PlanReading.{is_header, ends_plan, with_line, ReadsOn, ReadsPlan}
use Rattle.rehearsal.specs.RecordedSteps.{seated}
use Rattle.rehearsal.specs.SeatFree.{PlaysFree}
use Rattle.rehearsal.specs.PlanArmed.{PlaysArmed}

-- ---- the first line

abbrev pub Opens : List ℕ → Result Stage Halt → Type 0
Opens line result = MatchResult result (IsSeatFree (λ r s. IsOpened line r × (s ≡ []))) (IsHaltOf (opening line))

-- ---- any line

abbrev pub Plays : Stage → List ℕ → Transcript → Transcript → Result Stage Halt → Type 0
Plays NoClusterYet line old new result = Opens line result × (new ≡ old)
Plays (SeatFree r s) line old new result = PlaysFree (is_header line) (seated r s) line old new result
Plays (ReadingPlan r s t) line old new result =
    ReadsOn (ends_plan line) (seated r s) (with_line t.items line) old new result
Plays (PlanArmed r p) line old new result = PlaysArmed r p line old new result

-- ---- the end of the script

-- after how many commands an armed plan is given up
abbrev pub given_up : Stage → Option ℕ
given_up (PlanArmed r p) = Some p.progress.spent
given_up stage = None

abbrev pub ReportsLeft : Option ℕ → Transcript → Transcript → Type 0
ReportsLeft None old new = new ≡ old
ReportsLeft (Some n) old new = Prints old new (unfinished_text n) 1

-- the text that was read so far is taken as a whole plan
abbrev pub EndsReading : Recorded → List AdminCall → List ℕ → Transcript → Transcript → Type 0
EndsReading r s text old new =
    (stage : Stage) × (mid : Transcript) × ReadsPlan (plan_of_text text) r s old mid stage
    × ReportsLeft (given_up stage) mid new

abbrev pub Finishes : Stage → Transcript → Transcript → Result (Unit {0}) Halt → Type 0
Finishes NoClusterYet old new result = (result ≡ Ok tt) × (new ≡ old)
Finishes (SeatFree r s) old new result = (result ≡ Ok tt) × (new ≡ old)
Finishes (ReadingPlan r s t) old new result =
    MatchResult result (λ _. EndsReading r s t.items old new) (λ h. h ≡ Memory)
Finishes (PlanArmed r p) old new result =
    MatchResult result (λ _. ReportsLeft (Some p.progress.spent) old new) (λ h. h ≡ Memory)
