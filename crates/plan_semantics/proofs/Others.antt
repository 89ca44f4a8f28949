-- The nodes that are neither the source nor the target of a move.
use Rattle.std.proofs.Common.{◌≡◌, ◌≢◌, ◌⊎◌, ℕ, zero, suc, ◌+◌, ◌<◌, ◌≤◌, Bool, true, false, cond, not, ◌&&◌, ◌||◌, eqb, List, [], ◌∷◌, filter, sym, refl, ap, ◌∙◌, subst, arith, inl, inr}
use Rattle.std.proofs.lemmas.Bool.{cases_Bool, cases_eq, true≢false, ne_eqb, eq-eqb, eqb-false, or_left, or_right, or_parts}
use Rattle.std.specs.List.{AllByRecursion}
use Rattle.plan_semantics.specs.Plans.{among, IsDistinct, AreEnds}
use Rattle.plan_language.specs.Lines.{numbers_from, others}

pub counted_among : (k first m : ℕ) → first ≤ m → m < first + k → among m (numbers_from first k) ≡ true
unfolding numbers_from
counted_among zero first m a b = absurd (omega arith)
counted_among (suc k) first m a b = elim (cases_eq m first) [
  | inl u ↦ or_left (eqb m first) (among m (numbers_from (first + 1) k)) (eq-eqb m first u)
  | inr u ↦ or_right (eqb m first) (among m (numbers_from (first + 1) k)) (counted_among k (first + 1) m (omega arith) (omega arith))
]

counted_later : (k first m : ℕ) → m < first → among m (numbers_from first k) ≡ false
unfolding numbers_from
counted_later zero first m h = refl
counted_later (suc k) first m h = neither (eqb m first) _ (ne_eqb m first (λ e. less m first h e)) (counted_later k (first + 1) m (omega arith))
  where
    less : (m first : ℕ) → m < first → m ≡ first → ⊥
    less m first h e = omega arith

    neither : (a b : Bool) → a ≡ false → b ≡ false → a || b ≡ false
    neither a b e f = subst (λ x. x || b ≡ false) (sym e) f

pub filter_among : (p : ℕ → Bool) (xs : List ℕ) (m : ℕ) → p m ≡ true → among m xs ≡ true → among m (filter p xs) ≡ true
filter_among p [] m t e = e
filter_among p (x ∷ xs) m t e = by (cases_Bool (p x)) (cases_eq m x) (filter_among p xs m t)
  where
    by : (p x ≡ true) ⊎ (p x ≡ false) → (m ≡ x) ⊎ (m ≢ x) → (among m xs ≡ true → among m (filter p xs) ≡ true) → among m (cond (p x) (x ∷ filter p xs) (filter p xs)) ≡ true
    by (inl u) (inl v) r = subst (λ b. among m (cond b (x ∷ filter p xs) (filter p xs)) ≡ true) (sym u) (or_left (eqb m x) _ (eq-eqb m x v))
    by (inl u) (inr v) r = subst (λ b. among m (cond b (x ∷ filter p xs) (filter p xs)) ≡ true) (sym u) (or_right (eqb m x) _ (r (subst (λ b. b || among m xs ≡ true) (ne_eqb m x v) e)))
    by (inr u) (inl v) r = absurd (true≢false (sym t ∙ ap p v ∙ u))
    by (inr u) (inr v) r = subst (λ b. among m (cond b (x ∷ filter p xs) (filter p xs)) ≡ true) (sym u) (r (subst (λ b. b || among m xs ≡ true) (ne_eqb m x v) e))

filter_none : (p : ℕ → Bool) (xs : List ℕ) (m : ℕ) → among m xs ≡ false → among m (filter p xs) ≡ false
filter_none p [] m e = e
filter_none p (x ∷ xs) m e = by (p x) (filter_none p xs m (or_parts (eqb m x) (among m xs) e).1)
  where
    by : (b : Bool) → among m (filter p xs) ≡ false → among m (cond b (x ∷ filter p xs) (filter p xs)) ≡ false
    by true r = subst (λ c. c || among m (filter p xs) ≡ false) (sym (or_parts (eqb m x) (among m xs) e).0) r
    by false r = r

pub counted_distinct : (p : ℕ → Bool) (k first : ℕ) → IsDistinct (filter p (numbers_from first k))
unfolding numbers_from
counted_distinct p zero first = tt
counted_distinct p (suc k) first = by (p first) (counted_distinct p k (first + 1))
  where
    by : (b : Bool) → IsDistinct (filter p (numbers_from (first + 1) k)) → IsDistinct (cond b (first ∷ filter p (numbers_from (first + 1) k)) (filter p (numbers_from (first + 1) k)))
    by true r = (filter_none p (numbers_from (first + 1) k) first (counted_later k (first + 1) first (omega arith)), r)
    by false r = r

counted_each : (n s t k first : ℕ) → first + k ≤ n → AllByRecursion (λ m. (m < n) × (m ≢ s) × (m ≢ t)) (filter (λ m. not (eqb m s) && not (eqb m t)) (numbers_from first k))
unfolding numbers_from
counted_each n s t zero first h = tt
counted_each n s t (suc k) first h = by (cases_Bool (eqb first s)) (cases_Bool (eqb first t)) (counted_each n s t k (first + 1) (omega arith))
  where
    rest : List ℕ
    rest = filter (λ m. not (eqb m s) && not (eqb m t)) (numbers_from (first + 1) k)

    P : ℕ → Type 0
    P m = (m < n) × (m ≢ s) × (m ≢ t)

    by : (eqb first s ≡ true) ⊎ (eqb first s ≡ false) → (eqb first t ≡ true) ⊎ (eqb first t ≡ false) → AllByRecursion P rest → AllByRecursion P (cond (not (eqb first s) && not (eqb first t)) (first ∷ rest) rest)
    by (inl u) v r = subst (λ b. AllByRecursion P (cond (not b && not (eqb first t)) (first ∷ rest) rest)) (sym u) r
    by (inr u) (inl v) r = subst (λ b. AllByRecursion P (cond (not b && not (eqb first t)) (first ∷ rest) rest)) (sym u) (subst (λ b. AllByRecursion P (cond (not b) (first ∷ rest) rest)) (sym v) r)
    by (inr u) (inr v) r = subst (λ b. AllByRecursion P (cond (not b && not (eqb first t)) (first ∷ rest) rest)) (sym u) (subst (λ b. AllByRecursion P (cond (not b) (first ∷ rest) rest)) (sym v) ((omega arith, eqb-false first s u, eqb-false first t v), r))

pub others_ends : (n s t : ℕ) → s ≢ t → s < n → t < n → AreEnds n s t (others n s t)
unfolding others
others_ends n s t apart ls lt = record {
  apart = apart;
  source_below = ls;
  target_below = lt;
  each_other = counted_each n s t n 0 (omega arith);
  distinct = counted_distinct (λ m. not (eqb m s) && not (eqb m t)) n 0;
  every = λ m h a b. filter_among (λ m. not (eqb m s) && not (eqb m t)) (numbers_from 0 n) m (kept m a b) (counted_among n 0 m (omega arith) (omega arith));
}
  where
    kept : (m : ℕ) → m ≢ s → m ≢ t → (not (eqb m s) && not (eqb m t)) ≡ true
    kept m a b = subst (λ c. (not c && not (eqb m t)) ≡ true) (sym (ne_eqb m s a)) (ap not (ne_eqb m t b))
