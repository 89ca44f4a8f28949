-- Lists of what the numbers below one give, as of each node or of each slot.
use Rattle.std.specs.Prelude.{ℕ, zero, suc, List, [], ◌++◌}

-- what f gives of 0, of 1 and so on, of the numbers below n
unfoldable pub below : {A : Type 0} → (ℕ → List A) → ℕ → List A
below f zero = []
below f (suc n) = below f n ++ f n
