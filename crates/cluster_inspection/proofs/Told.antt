-- What is said, and written of that.
use Rattle.std.proofs.Common.{◌≡◌, ◌≢◌, ◌≤◌, ◌⊎◌, ℕ, List, inl, inr, codes, take, arith, subst, sym, ◌∙◌}
use Rattle.byte_streams.specs.Streams.{Output}
use Rattle.transcripts.specs.Writing.{Writes}
use Rattle.cluster_inspection.specs.Answers.{Tells}

-- what becomes of an answer that is reported
abbrev pub IsReported : {W : Type 0} → Output W → (said : ℕ) → (text : List ℕ) → (status : ℕ) → Type 0
IsReported o said text status =
    ((status ≡ said) × o.took o.before text o.after × (o.failures o.after ≡ o.failures o.before))
    ⊎ ((status ≡ 1) × ((n : ℕ) × o.took o.before (take n text) o.after) × (o.failures o.after ≢ o.failures o.before))

pub told : {W : Type 0} (says : ℕ → List ℕ → Type 0) (took : W → List ℕ → W → Type 0) (failures : W → ℕ)
    (said : ℕ) (text : List ℕ) (writer writer' : W) (status : ℕ) → says said text → said ≤ 1
    → IsReported (record { took = took; failures = failures; before = writer; after = writer' }) said text status
    → Tells says (record { took = took; failures = failures; before = writer; after = writer' }) status
told says took failures said text writer writer' status is few (inl whole) = record {
  few = omega (arith, few, whole.0);
  well = λ zero. ((text, subst (λ n. says n text) (sym whole.0 ∙ zero) is, whole.1), whole.2);
  badly = λ one. inl (text, subst (λ n. says n text) (sym whole.0 ∙ one) is, whole.1);
}
told says took failures said text writer writer' status is few (inr cut) = record {
  few = omega (arith, cut.0);
  well = λ zero. absurd (omega (arith, zero, cut.0));
  badly = λ one. inr (inl (text, said, is, cut.1, cut.2));
}

-- memory ran out
pub untold : {W : Type 0} (says : ℕ → List ℕ → Type 0) (took : W → List ℕ → W → Type 0) (failures : W → ℕ)
    (writer writer' : W) (status : ℕ) → status ≡ 1 → Writes took failures (codes "out of memory\n") writer writer'
    → Tells says (record { took = took; failures = failures; before = writer; after = writer' }) status
untold says took failures writer writer' status one wrote = record {
  few = omega (arith, one);
  well = λ zero. absurd (omega (arith, zero, one));
  badly = λ same. inr (inr wrote);
}

-- a report is a text that is written whole, or cut off
pub written : {W : Type 0} (took : W → List ℕ → W → Type 0) (failures : W → ℕ) (said : ℕ) (text : List ℕ)
    (writer writer' : W)
    (status : ℕ) → IsReported (record { took = took; failures = failures; before = writer; after = writer' }) said text
    status → Writes took failures text writer writer'
written took failures said text writer writer' status (inl whole) = inl whole.1
written took failures said text writer writer' status (inr cut) = inr (cut.1.0, cut.1.1, cut.2)

-- where it would be 1 anyway, it is
pub failed : {W : Type 0} (took : W → List ℕ → W → Type 0) (failures : W → ℕ) (said : ℕ) (text : List ℕ)
    (writer writer' : W)
    (status : ℕ) → said ≡ 1 → IsReported (record { took = took; failures = failures; before = writer; after = writer' })
    said text status → status ≡ 1
failed took failures said text writer writer' status is (inl whole) = omega (arith, whole.0, is)
failed took failures said text writer writer' status is (inr cut) = cut.0
