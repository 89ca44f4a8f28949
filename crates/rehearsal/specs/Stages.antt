-- What a rehearsal keeps from line to line, and how a line may halt it.
use Rattle.std.specs.Prelude.{◌≡◌, ⊤, ℕ, List, length, Result, Err}
use Rattle.cluster_admin.specs.declared.call.AdminCall.{AdminCall}
use Rattle.plan_runner.specs.declared.running.RunningPlan.{RunningPlan}
use Rattle.script_lines.specs.declared.fault.ScriptFault.{ScriptFault}
use Rattle.script_lines.specs.declared.fault.Halt.{Halt}
use Rattle.script_lines.specs.declared.fault.Halt.TheVariants.{Fault, Memory, Failed}
use Rattle.transcripts.specs.declared.transcript.Transcript.{Transcript}
use Rattle.rehearsal.specs.declared.stage.Stage.{Stage}
use Rattle.rehearsal.specs.declared.stage.Stage.TheVariants.{NoClusterYet, SeatFree, ReadingPlan, PlanArmed}
use Rattle.cluster_world.specs.Recorded.{Recorded, IsRecord}
use Rattle.rehearsal.specs.ArmedPlans.{IsUnderway}

-- the plan was verified for as many nodes as the world has
abbrev pub IsArmedIn : {S : Type 0} → Recorded → RunningPlan S → Type 0
IsArmedIn r plan = length r.world.nodes ≡ plan.progress.nodes

-- the events on the trail are a run from the opening to the world as it is; those since a plan was armed are driven by
-- it
abbrev pub IsStage : Stage → Type 0
IsStage NoClusterYet = Unit {0}
IsStage (SeatFree r seat) = IsRecord r
IsStage (ReadingPlan r seat text) = IsRecord r
IsStage (PlanArmed r plan) = IsRecord r × IsArmedIn r plan × IsUnderway r plan.progress

-- ---- stages

-- the seat is free, with this world and these calls
abbrev pub IsSeatFree : (Recorded → List AdminCall → Type 0) → Stage → Type 0
IsSeatFree P (SeatFree r s) = P r s
IsSeatFree P stage = ⊥

-- a plan is read, whose text so far is this
abbrev pub IsReadingPlan : Recorded → List AdminCall → List ℕ → Stage → Type 0
IsReadingPlan r s text (ReadingPlan next after t) = (next ≡ r) × (after ≡ s) × (t.items ≡ text)
IsReadingPlan r s text stage = ⊥

-- a plan has the seat, in this world
abbrev pub IsPlanArmed : (Recorded → RunningPlan (List AdminCall) → Type 0) → Stage → Type 0
IsPlanArmed P (PlanArmed r p) = P r p
IsPlanArmed P stage = ⊥

-- ---- halts

-- by the fault of r before anything is printed, or where memory runs out
abbrev pub Halts : {X : Type 0} → Result X ScriptFault → Transcript → Transcript → Halt → Type 0
Halts r old new (Fault f) = (r ≡ Err f) × (new ≡ old)
Halts r old new Memory = ⊤
Halts r old new Failed = ⊥
