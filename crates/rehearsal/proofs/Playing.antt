-- What comes of a plan that is refused, and of one whose end did not come.
use Rattle.std.proofs.Common.{◌≡◌, ◌≢◌, ◌↔◌, ◌⊎◌, List, ℕ, Option, Result, Ok, Err, inl, inr, sym}
use Rattle.std.proofs.lemmas.Bool.{true≢false}
use Rattle.std.specs.Prelude.{IsTrue, false, MatchResult}
use Rattle.cluster_world.specs.Recorded.{Recorded}
use Rattle.cluster_admin.specs.Surveys.{Survey}
use Rattle.cluster_world.specs.Worlds.{survey_of}
use Rattle.cluster_admin.specs.declared.call.AdminCall.{AdminCall}
use Rattle.plan_language.specs.PlanView.{PlanView}
use Rattle.plan_language.specs.Texts.{plan_of_text}
use Rattle.plan_runner.specs.Faults.{verify_fault_text, arm_fault_text}
use Rattle.plan_runner.specs.Verifying.{IsRefusedOver, IsVerified}
use Rattle.plan_runner.specs.declared.armed.ArmFault.{ArmFault}
use Rattle.plan_runner.specs.declared.armed.ArmFault.TheVariants.{TableChanged}
use Rattle.plan_runner.specs.declared.verify_fault.VerifyFault.{VerifyFault}
use Rattle.plan_runner.specs.declared.verify_fault.VerifyFault.TheVariants as illegal
use Rattle.script_lines.specs.declared.fault.Halt.{Halt}
use Rattle.script_lines.specs.declared.fault.Halt.TheVariants.{Memory}
use Rattle.transcripts.specs.declared.transcript.Transcript.{Transcript}
use Rattle.rehearsal.specs.declared.stage.Stage.{Stage}
use Rattle.rehearsal.specs.Playing.{EndsReading, ReportsLeft, given_up}
use Rattle.rehearsal.specs.PlanReading.{Arms, IsIllegal, IsChanged, ReadsPlan}
use Rattle.rehearsal.specs.RecordedSteps.{seated}
use Rattle.rehearsal.specs.Resuming.{TakesUp}
use Rattle.reshard_planner.specs.Resuming.{Resumes}
use Rattle.transcripts.specs.OutcomeTexts.{Prints, refused_text}

pub told_illegal : (plan : PlanView) (survey : Survey) (r : Recorded) (old new : Transcript) (f : VerifyFault)
    → IsRefusedOver plan survey f → (f ≢ illegal.Memory) × Prints old new (refused_text (verify_fault_text f)) 1
    → IsIllegal plan survey old new ⊎ IsChanged plan survey r old new
told_illegal plan survey r old new f refused reported = inl (f, reported.0, refused, reported.1)

pub told_changed : (plan : PlanView) (survey : Survey) (r : Recorded) (old new : Transcript) (f : ArmFault)
    → IsVerified plan survey → IsTrue false ↔ (survey_of r.world ≡ survey) → f ≡ TableChanged
    → Prints old new (refused_text (arm_fault_text f)) 1
    → IsIllegal plan survey old new ⊎ IsChanged plan survey r old new
told_changed plan survey r old new f legal same is reported =
    inr (legal, (λ u. true≢false (sym (same.1 u))), rw is at reported)

-- the plan that closes what stands open takes the seat
pub took_up : (b : ℕ) (r : Recorded) (s lent : List AdminCall) (old new : Transcript) (plan : PlanView) (survey : Survey)
    (result : Result Stage Halt) → survey ≡ survey_of r.world → lent ≡ s → Resumes survey b (Ok plan)
    → MatchResult result (Arms plan survey (seated r lent) old new) (λ h. h ≡ Memory)
    → MatchResult result (TakesUp b r s old new) (λ h. h ≡ Memory)
took_up b r s lent old new plan survey (Ok stage) is same resumes arms =
    inr (plan, rw is at resumes, rw (is, same) at arms)
took_up b r s lent old new plan survey (Err h) is same resumes arms = arms

pub ends_reading : (r : Recorded) (s : List AdminCall) (t : List ℕ) (old mid new : Transcript) (stage : Stage)
    (left : Option ℕ) (result : Result (Unit {0}) Halt) → ReadsPlan (plan_of_text t) r s old mid stage → left ≡ given_up stage
    → MatchResult result (λ _. ReportsLeft left mid new) (λ h. h ≡ Memory)
    → MatchResult result (λ _. EndsReading r s t old new) (λ h. h ≡ Memory)
ends_reading r s t old mid new stage left (Ok u) read e reported = (stage, mid, read, rw e at reported)
ends_reading r s t old mid new stage left (Err h) read e reported = reported
