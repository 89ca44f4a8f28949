-- Texts that are put one after the other.
use Rattle.std.proofs.Common.{◌≡◌, ◌∙◌, ℕ, suc, ◌+◌, List, [], ◌++◌, Result, Ok, Err, ap, append-nil, append_assoc}
use Rattle.std.proofs.Common.{arith, subst, sym}
use Rattle.std.specs.Prelude.{OnOk}

-- what is put before what is put then
pub before : {T E : Type 0} (r : Result T E) (old mid last a t : List ℕ) → mid ≡ old ++ a → OnOk r (last ≡ mid ++ t)
    → OnOk r (last ≡ old ++ (a ++ t))
before (Ok x) old mid last a t is put = put ∙ (ap (λ o. o ++ t) is ∙ append_assoc old a t)
before (Err e) old mid last a t is put = tt

-- the text that was put is one of those
pub put_so : {T E : Type 0} (r : Result T E) (P : List ℕ → Type 0) (old new t : List ℕ) → P t
    → OnOk r (new ≡ old ++ t) → OnOk r ((x : List ℕ) × (new ≡ old ++ x) × P x)
put_so (Ok x) P old new t is put = (t, put, is)
put_so (Err e) P old new t is put = tt

-- so it is, whatever it was said to be
pub put_as : {T E : Type 0} (r : Result T E) (P Q : List ℕ → Type 0) (old new : List ℕ) → ((t : List ℕ) → P t → Q t)
    → OnOk r ((x : List ℕ) × (new ≡ old ++ x) × P x) → OnOk r ((x : List ℕ) × (new ≡ old ++ x) × Q x)
put_as (Ok x) P Q old new to put = (put.0, put.1, to put.0 put.2)
put_as (Err e) P Q old new to put = tt

module _ (P : ℕ → List ℕ → Type 0) where
  -- the first so many texts are put
  abbrev pub IsPut : (count : ℕ) → (old out : List ℕ) → Type 0
  IsPut k old out = (t : List ℕ) × (out ≡ old ++ t) × P k t

  pub put_none : (old : List ℕ) → P 0 [] → IsPut 0 old old
  put_none old none = ([], sym (append-nil old), none)

  pub put_one : (k : ℕ) (old out new : List ℕ) (b : List ℕ) → new ≡ out ++ b
      → ((a : List ℕ) → P k a → P (suc k) (a ++ b)) → IsPut k old out → IsPut (k + 1) old new
  put_one k old out new b put next to = (
    to.0 ++ b,
    put ∙ (ap (λ x. x ++ b) to.1 ∙ append_assoc old to.0 b),
    subst (λ m. P m (to.0 ++ b)) (omega arith) (next to.0 to.2),
  )

  pub put_all : (k count : ℕ) (old out : List ℕ) → k ≡ count → IsPut k old out → IsPut count old out
  put_all k count old out is to = subst (λ m. IsPut m old out) is to
