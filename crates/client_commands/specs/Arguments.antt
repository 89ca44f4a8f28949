-- What every list of arguments keeps.
use Rattle.std.specs.Prelude.{ℕ, ◌<◌, ◌≤◌, List, length}

-- one argument at least, and no more than a request has words
abbrev pub IsArguments : List (List ℕ) → Type 0
IsArguments texts = (0 < length texts) × (length texts ≤ 1024)
