-- What is said of a plan that is verified, and the status of that.
use Rattle.std.specs.Prelude.{◌≡◌, ◌⊎◌, ℕ, List, length}
use Rattle.cluster_admin.specs.Phases.{closed_by}
use Rattle.key_slots.specs.Owners.{Owners}
use Rattle.plan_language.specs.Lines.{plan_commands}
use Rattle.plan_language.specs.PlanView.{PlanView}
use Rattle.plan_runner.specs.Faults.{verify_fault_text}
use Rattle.plan_runner.specs.Sound.{AreSound}
use Rattle.plan_runner.specs.Verifying.{IsRefused}
use Rattle.plan_runner.specs.declared.verify_fault.VerifyFault.{VerifyFault}
use Rattle.plan_semantics.specs.Plans.{Legal}
use Rattle.transcripts.specs.OutcomeTexts.{refused_text, verified_text}

-- the plan is legal, in its version, where every slot is closed at its owner in the table
abbrev pub IsLegalFor : Owners → PlanView → Type 0
IsLegalFor o plan = Legal plan.version (plan_commands o.nodes plan.lines) (closed_by o.owners) o.nodes

-- it is legal, and can be sent
abbrev pub IsVerifiedFor : Owners → PlanView → Type 0
IsVerifiedFor o plan = IsLegalFor o plan × AreSound o.nodes (plan_commands o.nodes plan.lines)

-- the plan is legal, and this says how many commands it stands for
abbrev pub SaysCount : Owners → PlanView → (status : ℕ) → (text : List ℕ) → Type 0
SaysCount o plan status text = IsVerifiedFor o plan × (status ≡ 0)
    × (text ≡ verified_text (length (plan_commands o.nodes plan.lines)))

-- the plan is not legal, and this is the verifier's fault
abbrev pub SaysFault : Owners → PlanView → (status : ℕ) → (text : List ℕ) → Type 0
SaysFault o plan status text = (f : VerifyFault)
    × IsRefused plan.version o.nodes (closed_by o.owners) (plan_commands o.nodes plan.lines) f
    × (IsLegalFor o plan → ⊥) × (status ≡ 1) × (text ≡ refused_text (verify_fault_text f))

abbrev pub SaysOfPlan : Owners → PlanView → (status : ℕ) → (text : List ℕ) → Type 0
SaysOfPlan o plan status text = SaysCount o plan status text ⊎ SaysFault o plan status text
