-- What holds of all numbers below one holds of all below the next.
use Rattle.std.proofs.Common.{◌≡◌, ◌<◌, ◌≤◌, ◌⊎◌, ℕ, ◌+◌, arith, inl, inr, refl, subst, sym}
use Rattle.std.specs.Prelude.{Bool, true, false, nat_lt}
use Rattle.std.proofs.lemmas.Bool.{ltb-false, ltb-true}

-- a number below the next one is below this one, or is it
pub below_or_last : (n k : ℕ) → n < k + 1 → (n < k) ⊎ (n ≡ k)
below_or_last n k lt = by (nat_lt n k) refl
  where
    by : (b : Bool) → nat_lt n k ≡ b → (n < k) ⊎ (n ≡ k)
    by true e = inl (ltb-true n k e)
    by false e =
        let least : k ≤ n = ltb-false n k e in
        inr (omega (arith, least, lt))

pub more : (P : ℕ → Type 0) (k m : ℕ) → ((n : ℕ) → n < k → P n) → m ≡ k → P m → (n : ℕ) → n < k + 1 → P n
more P k m each same last n lt = go (below_or_last n k lt)
  where
    go : (n < k) ⊎ (n ≡ k) → P n
    go (inl less) = each n less
    go (inr is) = subst P (sym is) (subst P same last)
