-- No batch has more requests than slots are looked at.
use Rattle.std.proofs.Common.{ℕ, zero, suc, ◌+◌, ◌*◌, ◌≤◌, Bool, true, false, cond, [], ◌∷◌, length, length-append, arith}
use Rattle.slot_key_counts.specs.Rounds.{batch}

one_at_most : (b : Bool) (s : ℕ) → length (cond b (s ∷ []) []) ≤ 1
one_at_most true s = omega arith
one_at_most false s = omega arith

pub batch_small : (asked : ℕ → Bool) (r k : ℕ) → length (batch asked r k) ≤ k
unfolding batch
batch_small asked r zero = omega arith
batch_small asked r (suc k) = omega (
  arith,
  length-append (batch asked r k) (cond (asked (r + 64 * k)) ((r + 64 * k) ∷ []) []),
  batch_small asked r k,
  one_at_most (asked (r + 64 * k)) (r + 64 * k),
)
