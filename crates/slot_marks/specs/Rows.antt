-- A row of optional marks, place by place, seen as a finite map.
use Rattle.std.specs.Prelude.{◌≡◌, ◌≤◌, ℕ, suc, List, [], ◌∷◌, Option, Some, None}
use Rattle.std.specs.FinMap as finite
use Rattle.slot_marks.specs.Tables.{Marks}

-- the marks of a row whose first place is this one
abbrev pub marks_from : ℕ → List (Option ℕ) → List (ℕ × ℕ)
marks_from i [] = []
marks_from i (None ∷ xs) = marks_from (suc i) xs
marks_from i (Some v ∷ xs) = (i, v) ∷ marks_from (suc i) xs

abbrev pub marks_of : List (Option ℕ) → Marks
marks_of xs = finite.from_entries (marks_from 0 xs)

-- only slots have a mark
abbrev pub AreOfSlots : Marks → Type 0
AreOfSlots m = (s : ℕ) → 16384 ≤ s → finite.get m s ≡ None
