-- The lines of a plan, and what becomes of their text.
use Rattle.std.specs.Prelude.{◌≡◌, ◌≢◌, ◌⊎◌, ℕ, Bool, true, false, List, [], ◌∷◌, ◌++◌, length, codes}
use Rattle.std.specs.Prelude.{◌-◌, ◌^◌, Result, Ok, Err, MatchResult}
use Rattle.cluster_admin.specs.Surveys.{Survey, closed_survey}
use Rattle.cluster_world.specs.Worlds.{survey_of}
use Rattle.cluster_admin.specs.declared.call.AdminCall.{AdminCall}
pub use Rattle.plan_language.specs.Texts.{ends_plan, is_header}
use Rattle.plan_language.specs.PlanView.{PlanView}
use Rattle.plan_language.specs.Texts.{Parsed, plan_of_text}
use Rattle.plan_language.specs.Faults.{parse_fault_text}
use Rattle.plan_semantics.specs.Surveyed.{node_count}
use Rattle.plan_runner.specs.Advancing.{PortState}
use Rattle.plan_runner.specs.Verifying.{IsRefusedOver, IsVerified, commands_of}
use Rattle.plan_runner.specs.Faults.{verify_fault_text, arm_fault_text}
use Rattle.plan_runner.specs.ProgressView.{Progress, at_start}
use Rattle.plan_runner.specs.declared.armed.ArmFault.TheVariants.{TableChanged}
use Rattle.plan_runner.specs.declared.verify_fault.VerifyFault.{VerifyFault}
use Rattle.plan_runner.specs.declared.verify_fault.VerifyFault.TheVariants as illegal
use Rattle.script_lines.specs.declared.fault.Halt.{Halt}
use Rattle.script_lines.specs.declared.fault.Halt.TheVariants.{Memory}
use Rattle.transcripts.specs.declared.transcript.Transcript.{Transcript}
use Rattle.transcripts.specs.OutcomeTexts.{Prints, verified_text, refused_text}
use Rattle.rehearsal.specs.declared.stage.Stage.{Stage}
use Rattle.rehearsal.specs.declared.stage.Stage.TheVariants.{SeatFree, PlanArmed}
pub use Rattle.cluster_world.specs.Recorded.{first_owners}
use Rattle.cluster_world.specs.Recorded.{Recorded}
use Rattle.rehearsal.specs.RecordedSteps.{seated}
use Rattle.rehearsal.specs.Stages.{IsReadingPlan}

-- ---- a line of a plan

-- the text with this line
abbrev pub with_line : List ℕ → List ℕ → List ℕ
with_line text line = (text ++ line) ++ 10 ∷ []

-- one more line of a plan is kept
abbrev pub Keeps : Recorded → List AdminCall → List ℕ → Transcript → Transcript → Result Stage Halt → Type 0
Keeps r s text old new result =
    MatchResult result (λ stage. IsReadingPlan r s text stage × (new ≡ old)) (λ h. h ≡ Memory)

-- ---- a plan is verified for a survey, and armed where the tables and marks are still those

-- the survey in which all nodes have the first one's table and no mark stands
abbrev pub table_survey : Recorded → Survey
table_survey r = closed_survey (first_owners r).nodes (first_owners r).owners

abbrev pub IsIllegal : PlanView → Survey → Transcript → Transcript → Type 0
IsIllegal plan survey old new =
    (f : VerifyFault) × (f ≢ illegal.Memory) × IsRefusedOver plan survey f
    × Prints old new (refused_text (verify_fault_text f)) 1

abbrev pub IsChanged : PlanView → Survey → Recorded → Transcript → Transcript → Type 0
IsChanged plan survey r old new =
    IsVerified plan survey × (survey_of r.world ≡ survey → ⊥)
    × Prints old new (refused_text (arm_fault_text TableChanged)) 1

-- the plan before its first command
abbrev pub started : PlanView → Survey → Progress
started plan survey = at_start (node_count survey) (commands_of plan survey) (2 ^ 64 - 1)

abbrev pub Arms : PlanView → Survey → PortState Recorded → Transcript → Transcript → Stage → Type 0
Arms plan survey at old new (SeatFree next calls) = (next ≡ at.port) × (calls ≡ at.calls)
    × (IsIllegal plan survey old new ⊎ IsChanged plan survey at.port old new)
Arms plan survey at old new (PlanArmed next p) =
    (next ≡ at.port) × (p ≡ record { progress = started plan survey; seat = at.calls })
    × IsVerified plan survey × (survey_of at.port.world ≡ survey)
    × Prints old new (verified_text (length (commands_of plan survey))) old.status
Arms plan survey at old new stage = ⊥

-- the text of a plan is read, and then verified by the first node's table
abbrev pub ReadsPlan : Parsed → Recorded → List AdminCall → Transcript → Transcript → Stage → Type 0
ReadsPlan (Ok plan) r s old new stage = Arms plan (table_survey r) (seated r s) old new stage
ReadsPlan (Err f) r s old new stage = (stage ≡ SeatFree r s) × Prints old new (refused_text (parse_fault_text f)) 1

abbrev pub ReadsOn : (ends : Bool) → PortState Recorded → List ℕ → Transcript → Transcript → Result Stage Halt → Type 0
ReadsOn true at text old new result =
    MatchResult result (ReadsPlan (plan_of_text text) at.port at.calls old new) (λ h. h ≡ Memory)
ReadsOn false at text old new result = Keeps at.port at.calls text old new result
