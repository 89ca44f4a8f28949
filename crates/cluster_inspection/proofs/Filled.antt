-- Owners that are put slot by slot.
use Rattle.std.proofs.Common.{◌≡◌, ◌∙◌, ℕ, ◌+◌, ◌<◌, ◌≤◌, Bool, cond, Option, None, Some, inl, inr, sym, ap, subst, arith}
use Rattle.std.proofs.lemmas.Bool.Decides.{eqb_tells}
use Rattle.std.specs.Prelude.{◌==◌}
use Rattle.cluster_inspection.specs.Stranded.{with_some}
use Rattle.slot_key_counts.specs.Questions.{no_owner}

-- the slots below this one have the owners that are wanted, and the others have none
pub record AreFilled (wanted : ℕ → Option ℕ) (k : ℕ) (owners : ℕ → Option ℕ) : Type 0 where
  pub below : (s : ℕ) → s < k → owners s ≡ wanted s
  pub from : (s : ℕ) → k ≤ s → owners s ≡ None

pub none_filled : (wanted owners : ℕ → Option ℕ) → owners ≡ no_owner → AreFilled wanted 0 owners
none_filled wanted owners none = record {
  below = (λ s less. absurd (omega arith));
  from = (λ s le. ap (λ (f : ℕ → Option ℕ). f s) none);
}

module _ (wanted : ℕ → Option ℕ) (k : ℕ) where
  one_filled : (owners : ℕ → Option ℕ) (o : Option ℕ) → o ≡ wanted k → AreFilled wanted k owners
      → AreFilled wanted (k + 1) (with_some owners k o)
  one_filled owners None is old = record {
    below = (λ s less. elim (eqb_tells k s) as (λ x. owners s ≡ wanted s) [
      | inl same ↦ old.from s (omega (arith, same.1)) ∙ is ∙ ap wanted same.1
      | inr other ↦ old.below s (omega (arith, other.1))
    ]);
    from = (λ s le. old.from s (omega arith));
  }
  one_filled owners (Some o) is old = record {
    below = (λ s less. elim (eqb_tells k s) as (λ x. cond (k == s) (Some o) (owners s) ≡ wanted s) [
      | inl same ↦ ap (λ (b : Bool). cond b (Some o) (owners s)) same.0 ∙ is ∙ ap wanted same.1
      | inr other ↦ ap (λ (b : Bool). cond b (Some o) (owners s)) other.0 ∙ old.below s (omega (arith, other.1))
    ]);
    from = (λ s le. elim (eqb_tells k s) as (λ x. cond (k == s) (Some o) (owners s) ≡ None) [
      | inl same ↦ absurd (omega (arith, same.1))
      | inr other ↦ ap (λ (b : Bool). cond b (Some o) (owners s)) other.0 ∙ old.from s (omega arith)
    ]);
  }

  pub next_filled : (owners owners' : ℕ → Option ℕ) (slot : ℕ) (o : Option ℕ) → slot ≡ k → o ≡ wanted k
      → owners' ≡ with_some owners slot o → AreFilled wanted k owners → AreFilled wanted (k + 1) owners'
  next_filled owners owners' slot o at is put old =
      subst (λ (f : ℕ → Option ℕ). AreFilled wanted (k + 1) f)
      (sym (put ∙ ap (λ (n : ℕ). with_some owners n o) at)) (one_filled owners o is old)
