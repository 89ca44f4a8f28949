-- Sums over the first n nodes.
use Rattle.std.proofs.Common.{◌≡◌, ◌≢◌, ℕ, zero, suc, ◌+◌, ◌<◌, ◌≤◌, cond, eqb, sym, refl, ap, ◌∙◌, add-one, arith, inl, inr}
use Rattle.std.proofs.lemmas.Bool.{cases_eq, cond-true, cond-false, eq-eqb, ne_eqb}
use Rattle.reshard_planner.specs.Sums.{sum_below}

pub sum_same : (f g : ℕ → ℕ) (n : ℕ) → ((i : ℕ) → i < n → f i ≡ g i) → sum_below f n ≡ sum_below g n
unfolding sum_below
sum_same f g zero h = refl
sum_same f g (suc n) h =
    let r : sum_below f n ≡ sum_below g n = sum_same f g n (λ i k. h i (omega arith)) in
    let l : f n ≡ g n = h n (omega arith) in omega arith

pub sum_le : (f g : ℕ → ℕ) (n : ℕ) → ((i : ℕ) → i < n → f i ≤ g i) → sum_below f n ≤ sum_below g n
unfolding sum_below
sum_le f g zero h = omega arith
sum_le f g (suc n) h =
    let r : sum_below f n ≤ sum_below g n = sum_le f g n (λ i k. h i (omega arith)) in
    let l : f n ≤ g n = h n (omega arith) in omega arith

pub sum_plus : (f g : ℕ → ℕ) (n : ℕ) → sum_below (λ i. f i + g i) n ≡ sum_below f n + sum_below g n
unfolding sum_below
sum_plus f g zero = refl
sum_plus f g (suc n) =
    let r : sum_below (λ i. f i + g i) n ≡ sum_below f n + sum_below g n = sum_plus f g n in omega arith

pub sum_none : (f : ℕ → ℕ) (n : ℕ) → ((i : ℕ) → i < n → f i ≡ 0) → sum_below f n ≡ 0
unfolding sum_below
sum_none f zero h = refl
sum_none f (suc n) h =
    let r : sum_below f n ≡ 0 = sum_none f n (λ i k. h i (omega arith)) in
    let l : f n ≡ 0 = h n (omega arith) in omega arith

-- the sum so far and the next one are within the whole sum
pub sum_upto : (f : ℕ → ℕ) (i n : ℕ) → i < n → sum_below f i + f i ≤ sum_below f n
unfolding sum_below
sum_upto f i zero h = absurd (omega arith)
sum_upto f i (suc n) h = elim (cases_eq i n) [
  | inl u ↦ (let e : sum_below f i + f i ≡ sum_below f n + f n = ap (λ j. sum_below f j + f j) u in omega arith)
  | inr u ↦ (let r : sum_below f i + f i ≤ sum_below f n = sum_upto f i n (omega arith) in omega arith)
]

pub sum_front : (f : ℕ → ℕ) (i n : ℕ) → i ≤ n → sum_below f i ≤ sum_below f n
sum_front f i n h = elim (cases_eq i n) [
  | inl u ↦ (let e : sum_below f i ≡ sum_below f n = ap (sum_below f) u in omega arith)
  | inr u ↦ (let r : sum_below f i + f i ≤ sum_below f n = sum_upto f i n (omega arith) in omega arith)
]

-- a number that only one of the places has
pub sum_single_past : (c t n : ℕ) → n ≤ t → sum_below (λ i. cond (eqb i t) c 0) n ≡ 0
sum_single_past c t n h = sum_none (λ i. cond (eqb i t) c 0) n
    (λ i k. cond-false (eqb i t) c 0 (ne_eqb i t (apart i t n k h)))
  where
    apart : (i t n : ℕ) → i < n → n ≤ t → i ≢ t
    apart i t n k h e = omega arith

pub sum_single : (c t n : ℕ) → t < n → sum_below (λ i. cond (eqb i t) c 0) n ≡ c
unfolding sum_below
sum_single c t zero h = absurd (omega arith)
sum_single c t (suc n) h = elim (cases_eq n t) [
  | inl u ↦ (let r : sum_below (λ i. cond (eqb i t) c 0) n ≡ 0 = sum_single_past c t n (omega arith) in
      let e : ◌≡◌ {A = ℕ} (cond (eqb n t) c 0) c = cond-true (eqb n t) c 0 (eq-eqb n t u) in omega arith)
  | inr u ↦ (let r : sum_below (λ i. cond (eqb i t) c 0) n ≡ c = sum_single c t n (omega arith) in
      let e : ◌≡◌ {A = ℕ} (cond (eqb n t) c 0) 0 = cond-false (eqb n t) c 0 (ne_eqb n t u) in omega arith)
]

-- the same with the test turned round
pub sum_single_turned : (t n : ℕ) → t < n → sum_below (λ i. cond (eqb t i) 1 0) n ≡ 1
sum_single_turned t n h = sum_same (λ i. cond (eqb t i) 1 0) (λ i. cond (eqb i t) 1 0) n
    (λ i k. turned i) ∙ sum_single 1 t n h
  where
    turned : (i : ℕ) → ◌≡◌ {A = ℕ} (cond (eqb t i) 1 0) (cond (eqb i t) 1 0)
    turned i = elim (cases_eq i t) [
      | inl u ↦ cond-true (eqb t i) 1 0 (eq-eqb t i (sym u)) ∙ sym (cond-true (eqb i t) 1 0 (eq-eqb i t u))
      | inr u ↦ cond-false (eqb t i) 1 0 (ne_eqb t i (λ e. u (sym e))) ∙ sym (cond-false (eqb i t) 1 0 (ne_eqb i t u))
    ]

pub sum_zero : (f : ℕ → ℕ) → sum_below f 0 ≡ 0
unfolding sum_below
sum_zero f = refl

pub sum_more : (f : ℕ → ℕ) (n : ℕ) → sum_below f (n + 1) ≡ sum_below f n + f n
unfolding sum_below
sum_more f n = rw add-one refl
