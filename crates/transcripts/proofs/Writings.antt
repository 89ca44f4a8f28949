-- A text that is written whole, or as far as it could be.
use Rattle.std.proofs.Common.{◌≡◌, ◌≢◌, ◌≤◌, ℕ, List, length, take, inl, inr, ap, subst, ◌∙◌, Result, Ok, Err}
use Rattle.std.specs.Prelude.{OnOk, OnErr}
use Rattle.std.proofs.Math.Seq.{take-length}
use Rattle.transcripts.specs.Writing.{Writes}

pub written : {W E : Type 0} (took : W → List ℕ → W → Type 0) (failures : W → ℕ) (text : List ℕ) (old new : W)
    (r : Result (Unit {0}) E)
    → (n : ℕ) × (n ≤ length text) × took old (take n text) new × OnOk r (n ≡ length text)
    → OnErr r (failures new ≢ failures old) → Writes took failures text old new
written took failures text old new (Ok u) p f = inl
    (subst (λ t. took old t new) (ap (λ n. take n text) p.3 ∙ take-length text) p.2)
written took failures text old new (Err e) p f = inr (p.0, p.2, f)
