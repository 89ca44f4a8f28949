-- A mark that is set, and one that is taken away.
use Rattle.std.proofs.Common.{◌≡◌, ◌≢◌, ℕ, false, cond, eqb, Some, None, sym, refl, ap, ◌∙◌, subst, inl, inr, nat_cmp}
use Rattle.std.proofs.Common.{is_eq, Ordering, Less, Equal, Greater}
use Rattle.std.proofs.lemmas.Bool.{cases_eq, ne_eqb, eq-eqb}
use Rattle.std.specs.FinMap as map
use Rattle.std.specs.FinMap.{get-insert, get-remove, nat_cmp-IsAntisymmetric}
use Rattle.std.specs.Cmp.{nat_cmp_total, tied_itself}

abbrev pub Mark : Type 0
Mark = map.FinMap nat_cmp ℕ

same_mark : (t s : ℕ) → is_eq (nat_cmp t s) ≡ eqb t s
same_mark t s = elim (cases_eq t s) [
  | inl e ↦ subst (λ u. is_eq (nat_cmp t u) ≡ eqb t u) e (ap is_eq (tied_itself nat_cmp_total t) ∙ sym (eq-eqb t t refl))
  | inr e ↦ apart (nat_cmp t s) refl e ∙ sym (ne_eqb t s e)
]
  where
    apart : (r : Ordering) → nat_cmp t s ≡ r → t ≢ s → is_eq r ≡ false
    apart Less p e = refl
    apart Equal p e = absurd (e (nat_cmp-IsAntisymmetric t s p))
    apart Greater p e = refl

pub inserted : (m : Mark) (s v t : ℕ) → map.get (map.insert m s v) t ≡ cond (eqb t s) (Some v) (map.get m t)
inserted m s v t = get-insert nat_cmp_total m s v t ∙ ap (λ b. cond b (Some v) (map.get m t)) (same_mark t s)

pub removed : (m : Mark) (s t : ℕ) → map.get (map.remove m s) t ≡ cond (eqb t s) None (map.get m t)
removed m s t = get-remove nat_cmp_total m s t ∙ ap (λ b. cond b None (map.get m t)) (same_mark t s)
