-- The last section: what a stop half way leaves.
use Rattle.std.specs.Prelude.{ℕ, ◌==◌, List, [], ◌∷◌, ◌++◌, cond, codes, decimal}

unfoldable pub stop_heading : List ℕ
stop_heading = codes "\nstopped half way\n  "

abbrev pub stand_word : ℕ → List ℕ
stand_word n = cond (n == 1) (codes " slot stands") (codes " slots stand")

unfoldable pub open_words : List ℕ
open_words = codes " open at most, at any time. This goes on:\n  "

-- how many slots stand open, and the command line that continues
unfoldable pub stop_section : (most_open : ℕ) (resume : List ℕ) → List ℕ
stop_section n resume = stop_heading ++ (decimal n ++ (stand_word n ++ (open_words ++ (resume ++ 10 ∷ []))))
