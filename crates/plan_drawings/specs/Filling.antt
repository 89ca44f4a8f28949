-- Texts with places for numbers.
use Rattle.std.specs.Prelude.{ℕ, cond, ◌==◌, List, [], ◌∷◌, ◌++◌, decimal}

-- the template, where each `%` gives way to the next number; where there is none left, it stays
unfoldable pub filled : (template numbers : List ℕ) → List ℕ
filled [] ns = []
filled (c ∷ t) [] = c ∷ filled t []
filled (c ∷ t) (n ∷ ns) = cond (c == 37) (decimal n ++ filled t ns) (c ∷ filled t (n ∷ ns))
