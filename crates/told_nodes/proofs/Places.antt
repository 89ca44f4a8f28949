-- Lists of what the numbers below one give, place by place.
use Rattle.std.proofs.Common.{◌≡◌, ℕ, zero, suc, ◌<◌, [], ◌∷◌, length, get_or, inl, inr}
use Rattle.std.proofs.Common.{refl, ap, ◌∙◌, arith}
use Rattle.std.proofs.lemmas.Bool.{cases_lt}
use Rattle.std.proofs.lemmas.List.{get_or_append_left, get_or_push, length_push}
use Rattle.cluster_reports.specs.Numbered.{below}

pub length-below : {A : Type 0} (f : ℕ → A) (n : ℕ) → length (below (λ i. f i ∷ []) n) ≡ n
unfolding below
length-below f zero = refl
length-below f (suc n) =
    let one = length_push (below (λ i. f i ∷ []) n) (f n) in
    let rest : length (below (λ i. f i ∷ []) n) ≡ n = length-below f n in
    omega (arith, one, rest)

pub get_or-below : {A : Type 0} (f : ℕ → A) (n i : ℕ) (d : A) → i < n → get_or (below (λ i. f i ∷ []) n) i d ≡ f i
unfolding below
get_or-below f zero i d lt = absurd (omega arith)
get_or-below f (suc n) i d lt =
    let wide : length (below (λ j. f j ∷ []) n) ≡ n = length-below f n in
    elim (cases_lt i n) [
      | inl low ↦
          get_or_append_left (below (λ j. f j ∷ []) n) (f n ∷ []) d i (omega (arith, wide))
          ∙ get_or-below f n i d low
      | inr high ↦
          let same : n ≡ i = omega arith in
          get_or_push (below (λ j. f j ∷ []) n) (f n) d i (wide ∙ same) ∙ ap f same
    ]
