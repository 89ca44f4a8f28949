-- What the line `resume` does: the plan that closes what stands open takes the seat.
use Rattle.std.specs.Prelude.{◌≡◌, ◌≢◌, ◌⊎◌, ℕ, List, Ok, Err}
use Rattle.cluster_world.specs.Recorded.{Recorded}
use Rattle.cluster_world.specs.Worlds.{survey_of}
use Rattle.cluster_admin.specs.declared.call.AdminCall.{AdminCall}
use Rattle.plan_language.specs.PlanView.{PlanView}
use Rattle.reshard_planner.specs.Faults.{planner_fault_text}
use Rattle.reshard_planner.specs.Resuming.{Resumes}
use Rattle.reshard_planner.specs.declared.planner_fault.PlannerFault.{PlannerFault}
use Rattle.reshard_planner.specs.declared.planner_fault.PlannerFault.TheVariants as unplanned
use Rattle.transcripts.specs.OutcomeTexts.{Prints, refused_text}
use Rattle.transcripts.specs.declared.transcript.Transcript.{Transcript}
use Rattle.rehearsal.specs.PlanReading.{Arms}
use Rattle.rehearsal.specs.RecordedSteps.{seated}
use Rattle.rehearsal.specs.Stages.{IsSeatFree}
use Rattle.rehearsal.specs.declared.stage.Stage.{Stage}

-- some slot is in no phase, and it is told which
abbrev pub IsNotResumed : ℕ → Recorded → List AdminCall → Transcript → Transcript → Stage → Type 0
IsNotResumed b r s old new stage =
    IsSeatFree (λ next calls. (next ≡ r) × (calls ≡ s)) stage
    × ((f : PlannerFault) × (f ≢ unplanned.Memory) × Resumes (survey_of r.world) b (Err f)
    × Prints old new (refused_text (planner_fault_text f)) 1)

-- the plan of all rests is verified for the survey of the world, and armed
abbrev pub TakesUp : (batch : ℕ) → Recorded → List AdminCall → Transcript → Transcript → Stage → Type 0
TakesUp b r s old new stage = IsNotResumed b r s old new stage
    ⊎ ((plan : PlanView) × Resumes (survey_of r.world) b (Ok plan)
    × Arms plan (survey_of r.world) (seated r s) old new stage)
