-- What the numbers below one give, one number after the other.
use Rattle.std.proofs.Common.{◌≡◌, ℕ, ◌+◌, ◌≤◌, List, [], ◌++◌, append-nil, append_assoc, add-one}
use Rattle.std.proofs.Common.{refl, sym, ap, ◌∙◌, arith}
use Rattle.cluster_reports.specs.Numbered.{below}

pub below-zero : {A : Type 0} (f : ℕ → List A) → below f 0 ≡ []
unfolding below
below-zero f = refl

pub below-next : {A : Type 0} (f : ℕ → List A) (n : ℕ) → below f (n + 1) ≡ below f n ++ f n
unfolding below
below-next f n = ap (below f) (add-one n)

-- nothing is put yet
pub put_first : {A : Type 0} (f : ℕ → List A) (old : List A) → old ≡ old ++ below f 0
put_first f old = sym (ap (λ t. old ++ t) (below-zero f) ∙ append-nil old)

-- what the number m gives is put after that of the numbers below it
pub put_more : {A : Type 0} (f : ℕ → List A) (i m : ℕ) (old out out' : List A) → m ≡ i → out ≡ old ++ below f i
    → out' ≡ out ++ f m → out' ≡ old ++ below f (i + 1)
put_more f i m old out out' same before put =
    put ∙ ap (λ t. t ++ f m) before ∙ ap (λ k. (old ++ below f i) ++ f k) same
    ∙ append_assoc old (below f i) (f i) ∙ ap (λ t. old ++ t) (sym (below-next f i))

pub put_all : {A : Type 0} (f : ℕ → List A) (n i : ℕ) (old out : List A) → n ≤ i → i ≤ n → out ≡ old ++ below f i
    → out ≡ old ++ below f n
put_all f n i old out least most before =
    let same : i ≡ n = omega arith in
    before ∙ ap (λ k. old ++ below f k) same
