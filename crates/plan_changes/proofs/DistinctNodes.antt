-- Lists in which no node stands twice.
use Rattle.std.proofs.Common.{◌≡◌, ◌≢◌, ◌⊎◌, ℕ, zero, suc, ◌+◌, ◌<◌, ◌≤◌, Bool, true, false, cond, not, ◌||◌, eqb, List}
use Rattle.std.proofs.Common.{[], ◌∷◌, filter, length, sym, refl, ap, ◌∙◌, subst, arith, inl, inr}
use Rattle.std.proofs.lemmas.Bool.{cases_Bool, cases_eq, true≢false, ne_eqb, eq-eqb, or_left, or_parts, or_cases}
use Rattle.std.specs.List.{AllByRecursion}
use Rattle.cluster_admin.specs.Phases.{IsDistinct, among}
use Rattle.plan_semantics.specs.Plans.{AreEnds}
use Rattle.plan_semantics.proofs.OnePhase.{all_among, not_among}
use Rattle.plan_semantics.proofs.Others.{filter_among}

-- all but the one
abbrev pub without : (a : ℕ) → List ℕ → List ℕ
without a xs = filter (λ m. not (eqb m a)) xs

-- nothing is taken out where it is not
pub kept : (a x : ℕ) (xs : List ℕ) → eqb x a ≡ false → without a (x ∷ xs) ≡ x ∷ without a xs
kept a x xs e = ap (λ b. cond (not b) (x ∷ without a xs) (without a xs)) e

pub taken : (a x : ℕ) (xs : List ℕ) → eqb x a ≡ true → without a (x ∷ xs) ≡ without a xs
taken a x xs e = ap (λ b. cond (not b) (x ∷ without a xs) (without a xs)) e

turned : (a x : ℕ) → eqb a x ≡ false → eqb x a ≡ false
turned a x e = ne_eqb x a (λ q. true≢false (sym (eq-eqb a x (sym q)) ∙ e))

pub all_kept : (a : ℕ) (xs : List ℕ) → among a xs ≡ false → without a xs ≡ xs
all_kept a [] e = refl
all_kept a (x ∷ xs) e =
    let p = or_parts (eqb a x) (among a xs) e in
    kept a x xs (turned a x p.0) ∙ ap (λ l. x ∷ l) (all_kept a xs p.1)

-- the one is gone
pub gone : (a : ℕ) (xs : List ℕ) → among a (without a xs) ≡ false
gone a [] = refl
gone a (x ∷ xs) = elim (cases_Bool (eqb x a)) [
  | inl e ↦ ap (among a) (taken a x xs e) ∙ gone a xs
  | inr e ↦ ap (among a) (kept a x xs e) ∙ ap (λ b. b || among a (without a xs)) (turned x a e) ∙ gone a xs
]

-- and each other stays
pub stays : (a m : ℕ) (xs : List ℕ) → m ≢ a → among m (without a xs) ≡ among m xs
stays a m [] ne = refl
stays a m (x ∷ xs) ne = elim (cases_eq x a) [
  | inl e ↦
      ap (among m) (taken a x xs (eq-eqb x a e)) ∙ stays a m xs ne
      ∙ sym (ap (λ b. b || among m xs) (ne_eqb m x (λ q. ne (q ∙ e))))
  | inr e ↦ ap (among m) (kept a x xs (ne_eqb x a e)) ∙ ap (λ b. eqb m x || b) (stays a m xs ne)
]

-- taken out of both, they have the same
pub same_without : (a : ℕ) (xs ys : List ℕ) → IsDistinct (a ∷ xs) → ((m : ℕ) → among m (a ∷ xs) ≡ among m ys)
    → (m : ℕ) → among m xs ≡ among m (without a ys)
same_without a xs ys d same m = elim (cases_eq m a) [
  | inl e ↦ ap (λ k. among k xs) e ∙ d.0 ∙ sym (gone a ys) ∙ ap (λ k. among k (without a ys)) (sym e)
  | inr ne ↦ sym (ap (λ b. b || among m xs) (ne_eqb m a ne)) ∙ same m ∙ sym (stays a m ys ne)
]

one_less : (a : ℕ) (xs : List ℕ) → IsDistinct xs → among a xs ≡ true → length (without a xs) + 1 ≡ length xs
one_less a [] d e = absurd (true≢false (sym e))
one_less a (x ∷ xs) d e = elim (cases_eq x a) [
  | inl q ↦
      let none : among a xs ≡ false = ap (λ k. among k xs) (sym q) ∙ d.0 in
      let same : length (without a (x ∷ xs)) ≡ length xs =
      ap length (taken a x xs (eq-eqb x a q) ∙ all_kept a xs none) in
      omega (arith, same)
  | inr ne ↦
      let later : among a xs ≡ true = sym (ap (λ b. b || among a xs) (ne_eqb a x (λ q. ne (sym q)))) ∙ e in
      let same : length (without a (x ∷ xs)) ≡ length (x ∷ without a xs) = ap length (kept a x xs (ne_eqb x a ne)) in
      let rest : length (without a xs) + 1 ≡ length xs = one_less a xs d.1 later in
      omega (arith, same, rest)
]

still_distinct : (a : ℕ) (xs : List ℕ) → IsDistinct xs → IsDistinct (without a xs)
still_distinct a [] d = tt
still_distinct a (x ∷ xs) d = elim (cases_eq x a) [
  | inl q ↦ subst IsDistinct (sym (taken a x xs (eq-eqb x a q))) (still_distinct a xs d.1)
  | inr ne ↦ subst IsDistinct (sym (kept a x xs (ne_eqb x a ne)))
      (stays a x xs ne ∙ d.0, still_distinct a xs d.1)
]

below : (n : ℕ) (xs : List ℕ) → AllByRecursion (λ m. m < suc n) xs → AllByRecursion (λ m. m < n) (without n xs)
below n [] all = tt
below n (x ∷ xs) all = elim (cases_eq x n) [
  | inl q ↦ subst (AllByRecursion (λ m. m < n)) (sym (taken n x xs (eq-eqb x n q))) (below n xs all.1)
  | inr ne ↦ subst (AllByRecursion (λ m. m < n)) (sym (kept n x xs (ne_eqb x n ne)))
      (less x n all.0 ne, below n xs all.1)
]
  where
    less : (x n : ℕ) → x < suc n → x ≢ n → x < n
    less x n lt ne = omega arith

-- all numbers below n, each once, are n
pub all_below : (n : ℕ) (xs : List ℕ) → IsDistinct xs → AllByRecursion (λ m. m < n) xs
    → ((m : ℕ) → m < n → among m xs ≡ true) → length xs ≡ n
all_below zero [] d all every = refl
all_below zero (x ∷ xs) d all every = absurd (omega (arith, all.0))
all_below (suc n) xs d all every =
    let rest : length (without n xs) ≡ n =
    all_below n (without n xs) (still_distinct n xs d) (below n xs all)
    (λ m lt. stays n m xs (other m lt) ∙ every m (omega (arith, lt))) in
    let whole : length (without n xs) + 1 ≡ length xs = one_less n xs d (every n (omega arith)) in
    omega (arith, rest, whole)
  where
    other : (m : ℕ) → m < n → m ≢ n
    other m lt e = omega arith

module _ (n o t : ℕ) where
  lower : (xs : List ℕ) → AllByRecursion (λ m. (m < n) × (m ≢ o) × (m ≢ t)) xs → AllByRecursion (λ m. m < n) xs
  lower [] all = tt
  lower (x ∷ xs) all = (all.0.0, lower xs all.1)

  -- with the source and the target these are all nodes
  pub ends_count : (xs : List ℕ) → AreEnds n o t xs → length xs + 2 ≡ n
  ends_count xs ends =
      let two : length (t ∷ o ∷ xs) ≡ n =
      all_below n (t ∷ o ∷ xs) (
        ap (λ b. b || among t xs) (ne_eqb t o (λ q. ends.apart (sym q)))
            ∙ not_among n o t xs t ends.each_other (inr refl),
        (not_among n o t xs o ends.each_other (inl refl), ends.distinct),
      )
      (ends.target_below, (ends.source_below, lower xs ends.each_other)) every in
      omega (arith, two)
    where
      every : (m : ℕ) → m < n → among m (t ∷ o ∷ xs) ≡ true
      every m lt = elim (cases_eq m t) [
        | inl e ↦ or_left (eqb m t) (among m (o ∷ xs)) (eq-eqb m t e)
        | inr ne ↦ ap (λ b. b || among m (o ∷ xs)) (ne_eqb m t ne) ∙ elim (cases_eq m o) [
          | inl e ↦ or_left (eqb m o) (among m xs) (eq-eqb m o e)
          | inr other ↦ ap (λ b. b || among m xs) (ne_eqb m o other) ∙ ends.every m lt other ne
        ]
      ]

  half_same : (xs ys : List ℕ) → AreEnds n o t xs → AreEnds n o t ys → (m : ℕ) → among m xs ≡ true → among m ys ≡ true
  half_same xs ys a b m e =
      let p = all_among (λ q. (q < n) × (q ≢ o) × (q ≢ t)) xs a.each_other m e in
      b.every m p.0 p.1 p.2

  -- two lists of the others have the same nodes
  pub ends_same : (xs ys : List ℕ) → AreEnds n o t xs → AreEnds n o t ys → (m : ℕ) → among m xs ≡ among m ys
  ends_same xs ys a b m = elim (cases_Bool (among m xs)) [
    | inl e ↦ e ∙ sym (half_same xs ys a b m e)
    | inr e ↦ elim (cases_Bool (among m ys)) [
      | inl f ↦ half_same ys xs b a m f ∙ sym f
      | inr f ↦ e ∙ sym f
    ]
  ]
