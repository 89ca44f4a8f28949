-- Reading one after the other.
use Rattle.std.proofs.Common.{◌≡◌, ℕ, suc, ◌+◌, ◌-◌, ◌≤◌, ◌<◌, List, [], ◌∷◌, ◌++◌, Result, Ok, Err, refl, sym, ap, ◌∙◌, arith}
use Rattle.migrate_frames.specs.declared.fault.FrameFault.{FrameFault}
use Rattle.migrate_frames.specs.declared.fault.FrameFault.TheVariants.{Truncated, BadKind, BadLength, RepeatedKey, Trailing, Memory}
use Rattle.migrate_frames.specs.Reading.{◌>>=◌, Read, Fails, many, put_last}

-- one is read first, and then those after it
after_one : {A : Type 0} (one : List A → List ℕ → Read A) (before : List A) (n : ℕ) (bytes : List ℕ) → many one before (suc n) bytes ≡ (put_last before (one before bytes) >>= λ x. many one x.0 n x.1)
after_one one before n bytes = elim (one before bytes) as (λ r. (r >>= λ x. many one (before ++ x.0 ∷ []) n x.1) ≡ (put_last before r >>= λ x. many one x.0 n x.1)) [ Ok x ↦ refl | Err e ↦ refl ]

pub fails_more : {A B : Type 0} (e : FrameFault) (r : Result A FrameFault) (f : A → Result B FrameFault) → Fails e r → Fails e (r >>= f)
fails_more Memory r f h = tt
fails_more Truncated r f h = ap (λ r. r >>= f) h
fails_more BadKind r f h = ap (λ r. r >>= f) h
fails_more BadLength r f h = ap (λ r. r >>= f) h
fails_more RepeatedKey r f h = ap (λ r. r >>= f) h
fails_more Trailing r f h = ap (λ r. r >>= f) h

pub fails_same : {A : Type 0} (e : FrameFault) (r s : Result A FrameFault) → r ≡ s → Fails e r → Fails e s
fails_same Memory r s same h = tt
fails_same Truncated r s same h = sym same ∙ h
fails_same BadKind r s same h = sym same ∙ h
fails_same BadLength r s same h = sym same ∙ h
fails_same RepeatedKey r s same h = sym same ∙ h
fails_same Trailing r s same h = sym same ∙ h

module _ {A : Type 0} (one : List A → List ℕ → Read A) (count i : ℕ) (before : List A) (bytes : List ℕ) (total : Read (List A)) (so_far : many one before (count - i) bytes ≡ total) where
  split : i < count → (put_last before (one before bytes) >>= λ x. many one x.0 (count - (i + 1)) x.1) ≡ total
  split lt =
      let k : count - i ≡ suc (count - (i + 1)) = omega arith in
      sym (after_one one before (count - (i + 1)) bytes) ∙ ap (λ n. many one before n bytes) (sym k) ∙ so_far

  pub goes_on : (now : List A) (rest : List ℕ) → i < count → put_last before (one before bytes) ≡ Ok (now, rest) → many one now (count - (i + 1)) rest ≡ total
  goes_on now rest lt h = sym (ap (λ r. r >>= λ x. many one x.0 (count - (i + 1)) x.1) h) ∙ split lt

  pub ends : (e : FrameFault) → i < count → Fails e (put_last before (one before bytes)) → Fails e total
  ends e lt h = fails_same e _ total (split lt) (fails_more e (put_last before (one before bytes)) (λ x. many one x.0 (count - (i + 1)) x.1) h)

  pub is_done : count ≤ i → total ≡ Ok (before, bytes)
  is_done le = let k : count - i ≡ 0 = omega arith in sym so_far ∙ ap (λ n. many one before n bytes) k
