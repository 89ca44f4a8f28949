-- One of several connections is asked.
use Rattle.std.specs.Prelude.{◌≡◌, ℕ, List, Some, slice_get, slice_set}

-- something is asked over the connection of this number, with this answer, and the others stay as they are
abbrev pub AsksAt : {L A : Type 0} → (asks : L → A → L → Type 0) → List L → ℕ → A → List L → Type 0
AsksAt {L} asks links n answer links' = (l : L) × (l' : L) × (slice_get links n ≡ Some l) × asks l answer l'
    × (links' ≡ slice_set links n l')
