-- The nodes that lines of a plan mention.
use Rattle.std.specs.Prelude.{◌≡◌, ◌<◌, ℕ, Bool, false, ◌||◌, ◌==◌, List, length, slice_index_or}
use Rattle.std.specs.List.{list_any}
use Rattle.plan_language.specs.Lines.{nodes_of}
use Rattle.plan_language.specs.declared.line.Line.{Line}

-- whether the node is one of the two of the line
abbrev pub mentions_node : Line → (node : ℕ) → Bool
mentions_node line n = (nodes_of line).0 == n || (nodes_of line).1 == n

-- whether one of the lines mentions it
abbrev pub mentions : List Line → (node : ℕ) → Bool
mentions lines n = list_any (λ line. mentions_node line n) lines

-- a place for each node that there can be, which says whether the lines mention it
abbrev pub AreMarks : List Line → List Bool → Type 0
AreMarks lines marks =
    (length marks ≡ 255) × ((n : ℕ) → n < 255 → slice_index_or marks n false ≡ mentions lines n)
