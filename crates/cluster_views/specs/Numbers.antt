-- Nodes and slots in their order, and the first that has something.
use Rattle.std.specs.Prelude.{ℕ, List, [], ◌∷◌, Option, None}
use Rattle.std.specs.Option.{option_or}
use Rattle.std.specs.List.{range_with_len}

-- the numbers below this one, ascending
unfoldable pub numbers_to : ℕ → List ℕ
numbers_to n = range_with_len 0 n

-- what f gives of the first element of which it gives something
abbrev pub first_given : {A B : Type 0} → (A → Option B) → List A → Option B
first_given f [] = None
first_given f (x ∷ xs) = option_or (f x) (first_given f xs)
