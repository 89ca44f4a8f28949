-- The bytes of a batch. Numbers are big-endian: 16 bits for the count of entries, 32 bits elsewhere.
-- This layout is the project's own, in the place of what DUMP and RESTORE use in Redis.
use Rattle.std.specs.Prelude.{ℕ, List, ◌∷◌, ◌++◌, length}
use Rattle.std.specs.Int.{w16, w32, to_be_bytes}
use Rattle.std.specs.List.{flat_map}
use Rattle.typed_values.specs.declared.value.Value.{Value}
use Rattle.typed_values.specs.declared.value.Value.TheVariants as value
use Rattle.migrate_frames.specs.Batches.{Entry}

unfoldable pub short_number : ℕ → List ℕ
short_number n = to_be_bytes w16 n

unfoldable pub number : ℕ → List ℕ
number n = to_be_bytes w32 n

-- a length, and that many bytes
abbrev pub piece : List ℕ → List ℕ
piece text = number (length text) ++ text

-- a field and its value
abbrev pub pair : List ℕ × List ℕ → List ℕ
pair e = piece e.0 ++ piece e.1

-- a count, and that many elements in order
abbrev pub count_and_each : {A : Type 0} → (A → List ℕ) → List A → List ℕ
count_and_each spelling xs = number (length xs) ++ flat_map spelling xs

-- a byte for the kind, and what is in the value
abbrev pub kind_and_body : Value → List ℕ
kind_and_body (value.Text t) = 0 ∷ piece t
kind_and_body (value.Hash es) = 1 ∷ count_and_each pair es
kind_and_body (value.List l) = 2 ∷ count_and_each piece l
kind_and_body (value.Set ms) = 3 ∷ count_and_each piece ms

abbrev pub entry : Entry → List ℕ
entry e = piece e.0 ++ kind_and_body e.1

unfoldable pub frame : List Entry → List ℕ
frame es = short_number (length es) ++ flat_map entry es
