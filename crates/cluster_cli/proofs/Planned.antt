-- What becomes of a plan that is asked for.
use Rattle.std.proofs.Common.{◌≡◌, ◌≢◌, ◌⊎◌, ℕ, List, [], inl, inr, arith, refl}
use Rattle.byte_streams.specs.Streams.{Output}
use Rattle.cluster_inspection.specs.Answers.{IsNotWritten, IsWritten, Tells}
use Rattle.cluster_cli.specs.Planning.{Plans}

pub not_left : {A B : Type 0} → (A → ⊥) → A ⊎ B → B
not_left empty (inl a) = absurd (empty a)
not_left empty (inr b) = b

-- what becomes of a report of wrong usage
abbrev pub IsMisused : {E : Type 0} → Output E → (report : List ℕ) → (status : ℕ) → Type 0
IsMisused e report status = ((status ≡ 2) × e.took e.before report e.after × (e.failures e.after ≡ e.failures e.before))
    ⊎ ((status ≡ 1) × (e.failures e.after ≢ e.failures e.before))

module _ {W E : Type 0} (says : ℕ → List ℕ → List ℕ → Type 0) (misnamed : List ℕ → Type 0)
    (took : W → List ℕ → W → Type 0) (failures : W → ℕ) (error_took : E → List ℕ → E → Type 0) (error_failures : E → ℕ)
    (writer : W) (errors : E) where
  abbrev written_to : W → Output W
  written_to writer' = record { took = took; failures = failures; before = writer; after = writer' }

  abbrev reported_to : E → Output E
  reported_to errors' = record { took = error_took; failures = error_failures; before = errors; after = errors' }

  abbrev remarking : (remark : List ℕ) → ℕ → List ℕ → Type 0
  remarking remark s t = says s t remark

  badly : (remark : List ℕ) (writer' : W) (errors' : E)
      → IsWritten (remarking remark) (written_to writer') 1 ⊎ IsNotWritten (remarking remark) (written_to writer')
      → IsWritten (remarking remark) (written_to writer') 1 ⊎ (IsNotWritten (remarking remark) (written_to writer')
      ⊎ ((report : List ℕ) × misnamed report × (writer' ≡ writer) × (error_failures errors' ≢ error_failures errors)))
  badly remark writer' errors' (inl written) = inl written
  badly remark writer' errors' (inr not) = inr (inl not)

  pub planned : (remark : List ℕ) (writer' : W) (errors' : E) (status : ℕ)
      → Tells (remarking remark) (written_to writer') status
      → (error_failures errors' ≡ error_failures errors → error_took errors remark errors')
      → Plans says misnamed (written_to writer') (reported_to errors') status
  planned remark writer' errors' status t remarked = record {
    few = omega (arith, t.few);
    remark = remark;
    planned = t.well;
    refused = λ one. badly remark writer' errors' (t.badly one);
    reported = λ two. absurd (omega (arith, two, t.few));
    remarked = λ other same. remarked same;
  }

  pub not_planned : (report : List ℕ) (errors' : E) (status : ℕ) → misnamed report
      → IsMisused (reported_to errors') report status
      → Plans says misnamed (written_to writer) (reported_to errors') status
  not_planned report errors' status is (inl told) = record {
    few = omega (arith, told.0);
    remark = [];
    planned = λ zero. absurd (omega (arith, zero, told.0));
    refused = λ one. absurd (omega (arith, one, told.0));
    reported = λ two. (report, is, refl, told.1, told.2);
    remarked = λ other same. absurd (other told.0);
  }
  not_planned report errors' status is (inr failed) = record {
    few = omega (arith, failed.0);
    remark = [];
    planned = λ zero. absurd (omega (arith, zero, failed.0));
    refused = λ one. inr (inr (report, is, refl, failed.1));
    reported = λ two. absurd (omega (arith, two, failed.0));
    remarked = λ other same. absurd (failed.1 same);
  }
