-- No owner table that meets the quotas differs from the present one in fewer slots than the donors' surplus: each donor
-- loses that many slots at least, and no slot is lost by two.
use Rattle.std.proofs.Common.{◌≡◌, ◌≢◌, ℕ, zero, suc, ◌+◌, ◌-◌, ◌≤◌, cond, eqb, List, [], ◌∷◌, length, refl, ap, arith, inl, inr}
use Rattle.std.proofs.lemmas.Bool.{cases_eq, eq-eqb, ne_eqb, cond-true, cond-false}
use Rattle.reshard_planner.specs.Sums.{sum_below}
use Rattle.reshard_planner.specs.Holding.{held, differing}
use Rattle.reshard_planner.specs.Quotas.{surplus, MeetsQuotas}
use Rattle.reshard_planner.proofs.Sums.{sum_le, sum_none}

-- one place more counts at most once
sum_past : (f : ℕ → ℕ) (a n : ℕ) → n ≤ a → sum_below (λ i. f i + cond (eqb a i) 1 0) n ≡ sum_below f n
unfolding sum_below
sum_past f a zero h = refl
sum_past f a (suc n) h =
    let r : sum_below (λ i. f i + cond (eqb a i) 1 0) n ≡ sum_below f n = sum_past f a n (omega arith) in
    let e : ◌≡◌ {A = ℕ} (cond (eqb a n) 1 0) 0 = cond-false (eqb a n) 1 0 (ne_eqb a n (apart a n h)) in omega arith
  where
    apart : (a n : ℕ) → suc n ≤ a → a ≢ n
    apart a n h e = omega arith

sum_one : (f : ℕ → ℕ) (a n : ℕ) → sum_below (λ i. f i + cond (eqb a i) 1 0) n ≤ sum_below f n + 1
unfolding sum_below
sum_one f a zero = omega arith
sum_one f a (suc n) = elim (cases_eq a n) [
  | inl u ↦ (let r : sum_below (λ i. f i + cond (eqb a i) 1 0) n ≡ sum_below f n = sum_past f a n (omega arith) in
      let e : ◌≡◌ {A = ℕ} (cond (eqb a n) 1 0) 1 = cond-true (eqb a n) 1 0 (eq-eqb a n u) in omega arith)
  | inr u ↦ (let r : sum_below (λ i. f i + cond (eqb a i) 1 0) n ≤ sum_below f n + 1 = sum_one f a n in
      let e : ◌≡◌ {A = ℕ} (cond (eqb a n) 1 0) 0 = cond-false (eqb a n) 1 0 (ne_eqb a n u) in omega arith)
]

differ_least : (n : ℕ) (xs ys : List ℕ) → length xs ≡ length ys → sum_below (λ i. held xs i - held ys i) n ≤ differing xs ys
differ_least n [] ys e =
    let r : sum_below (λ i. held [] i - held ys i) n ≡ 0 = sum_none (λ i. held [] i - held ys i) n (λ i k. (omega arith)) in omega arith
differ_least n (x ∷ xs) [] e = absurd (omega arith)
differ_least n (x ∷ xs) (y ∷ ys) e =
    let r : sum_below (λ i. held xs i - held ys i) n ≤ differing xs ys = differ_least n xs ys (omega arith) in
    elim (cases_eq x y) [
      | inl u ↦ (let s : sum_below (λ i. held (x ∷ xs) i - held (y ∷ ys) i) n ≤ sum_below (λ i. held xs i - held ys i) n
          = sum_le _ _ n (λ i k. same x y i xs ys u) in
          let d : ◌≡◌ {A = ℕ} (cond (eqb x y) 0 1) 0 = cond-true (eqb x y) 0 1 (eq-eqb x y u) in omega arith)
      | inr u ↦ (let s : sum_below (λ i. held (x ∷ xs) i - held (y ∷ ys) i) n
          ≤ sum_below (λ i. (held xs i - held ys i) + cond (eqb x i) 1 0) n = sum_le _ _ n (λ i k. (omega arith)) in
          let t : sum_below (λ i. (held xs i - held ys i) + cond (eqb x i) 1 0) n ≤ sum_below (λ i. held xs i - held ys i) n + 1
          = sum_one (λ i. held xs i - held ys i) x n in
          let d : ◌≡◌ {A = ℕ} (cond (eqb x y) 0 1) 1 = cond-false (eqb x y) 0 1 (ne_eqb x y u) in omega arith)
    ]
  where
    same : (x y i : ℕ) (xs ys : List ℕ) → x ≡ y → held (x ∷ xs) i - held (y ∷ ys) i ≤ held xs i - held ys i
    same x y i xs ys u = let c : ◌≡◌ {A = ℕ} (cond (eqb x i) 1 0) (cond (eqb y i) 1 0) = ap (λ z. cond (eqb z i) 1 0) u in omega arith

pub surplus_moves : (n : ℕ) (owners other : List ℕ) (quota : ℕ → ℕ) → length other ≡ length owners → MeetsQuotas n quota other
    → sum_below (surplus (held owners) quota) n ≤ differing owners other
surplus_moves n owners other quota e meets =
    let s : sum_below (surplus (held owners) quota) n ≤ sum_below (λ i. held owners i - held other i) n
    = sum_le (surplus (held owners) quota) (λ i. held owners i - held other i) n
    (λ i k. let m : held other i ≡ quota i = meets i k in omega arith) in
    let d : sum_below (λ i. held owners i - held other i) n ≤ differing owners other
    = differ_least n owners other (omega arith) in omega arith
