-- Sums over the first numbers.
use Rattle.std.specs.Prelude.{ℕ, zero, suc, ◌+◌}

-- f 0 + .. + f (n - 1)
unfoldable pub sum_below : (ℕ → ℕ) → ℕ → ℕ
sum_below f zero = 0
sum_below f (suc n) = sum_below f n + f n
