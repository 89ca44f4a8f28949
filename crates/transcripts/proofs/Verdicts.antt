-- What the verifier says is true of the table that the survey shows.
use Rattle.std.proofs.Common.{◌≡◌, ◌≢◌, ◌∙◌, ◌++◌, ℕ, [], ap, inl, inr, subst}
use Rattle.std.specs.Prelude.{length}
use Rattle.cluster_admin.specs.Phases.{closed_by}
use Rattle.cluster_admin.specs.Surveys.{closed_survey}
use Rattle.key_slots.specs.Owners.{IsTable, Owners}
use Rattle.plan_language.specs.Lines.{plan_commands}
use Rattle.plan_language.specs.PlanView.{PlanView}
use Rattle.plan_runner.proofs.Surveyed.{closed_count, closed_legal, closed_refused}
use Rattle.plan_runner.specs.Faults.{verify_fault_text}
use Rattle.plan_runner.specs.Sound.{AreSound}
use Rattle.plan_runner.specs.Verifying.{IsRefused, IsRefusedOver, IsVerified, RefusedBy}
use Rattle.plan_runner.specs.declared.verify_fault.VerifyFault.{VerifyFault}
use Rattle.plan_runner.specs.declared.verify_fault.VerifyFault.TheVariants as illegal
use Rattle.transcripts.specs.OutcomeTexts.{Prints, refused_text, verified_text}
use Rattle.transcripts.specs.PlanVerdicts.{IsLegalFor, IsVerifiedFor, SaysCount, SaysFault}
use Rattle.transcripts.specs.declared.transcript.Transcript.{Transcript}

-- what the verifier accepts over the survey of a table is verified for the table
pub verified_for : (plan : PlanView) (o : Owners) → IsTable o → IsVerified plan (closed_survey o.nodes o.owners)
    → IsVerifiedFor o plan
verified_for plan o table h =
    (closed_legal plan o table h, subst (λ n. AreSound n (plan_commands n plan.lines)) (closed_count o) h.sound)

-- and so is what it refuses, unless memory ran out
refused_for : (plan : PlanView) (o : Owners) (f : VerifyFault) → IsTable o
    → IsRefusedOver plan (closed_survey o.nodes o.owners) f → f ≢ illegal.Memory
    → IsRefused plan.version o.nodes (closed_by o.owners) (plan_commands o.nodes plan.lines) f
    × (IsLegalFor o plan → ⊥)
refused_for plan o f table h other = by (closed_refused plan o f table h)
  where
    by : RefusedBy plan.version o.nodes (closed_by o.owners) (plan_commands o.nodes plan.lines) f
        → IsRefused plan.version o.nodes (closed_by o.owners) (plan_commands o.nodes plan.lines) f
        × (IsLegalFor o plan → ⊥)
    by (inl memory) = absurd (other memory)
    by (inr refused) = refused

-- what stands in a transcript, once nothing stood there, of a plan that is accepted and of one that is refused
module _ (plan : PlanView) (o : Owners) (table : IsTable o) (old new : Transcript)
    (fresh : old.printed.items ≡ []) where
  pub says_count : (commands n : ℕ) → IsVerified plan (closed_survey o.nodes o.owners)
      → commands ≡ length (plan_commands n plan.lines) → n ≡ o.nodes → old.status ≡ 0
      → Prints old new (verified_text commands) old.status → SaysCount o plan new.status new.printed.items
  says_count commands n verified count nodes status prints = (
    verified_for plan o table verified,
    prints.1 ∙ status,
    prints.0 ∙ ap (λ t. t ++ verified_text commands) fresh
        ∙ ap verified_text (count ∙ ap (λ m. length (plan_commands m plan.lines)) nodes),
  )

  pub says_fault : (f : VerifyFault) → IsRefusedOver plan (closed_survey o.nodes o.owners) f
      → (f ≢ illegal.Memory) × Prints old new (refused_text (verify_fault_text f)) 1
      → SaysFault o plan new.status new.printed.items
  says_fault f refused told =
      let why = refused_for plan o f table refused told.0 in
      (f, why.0, why.1, told.1.1, told.1.0 ∙ ap (λ t. t ++ refused_text (verify_fault_text f)) fresh)
