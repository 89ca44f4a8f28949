-- Marks with the nodes that have them.
use Rattle.std.proofs.Common.{◌≡◌, ℕ, Option, None, Some, refl}
use Rattle.std.specs.Prelude.{option_map}

-- without a pair there is no mark
pub pair_none : (n : ℕ) (o : Option ℕ) → option_map {U = ℕ × ℕ} (λ m. (n, m)) o ≡ None → o ≡ None
pair_none n None e = refl
pair_none n (Some m) e = absurd cc
