-- What stands in the bytes of a frame: the batch, or the fault at the first place from the left. A step that fails ends
-- the reading, so that the order of the steps is the order of the faults. The layout is that of Frames.
use Rattle.std.specs.Prelude.{◌≡◌, ℕ, zero, suc, List, [], ◌∷◌, ◌++◌, length, take, drop, Result, Ok, Err, nat_lt, ◌==◌}
use Rattle.std.specs.Prelude.{◌||◌, if◌then◌else◌}
use Rattle.std.specs.Int.{Width, w16, w32, byte_len, from_be_bytes}
use Rattle.std.specs.Map.{keys_of}
use Rattle.typed_values.specs.declared.value.Value.{Value}
use Rattle.typed_values.specs.declared.value.Value.TheVariants as value
use Rattle.typed_values.specs.Members.{has}
use Rattle.typed_values.specs.Values.{is_nil}
pub use Rattle.byte_texts.specs.Outcomes.{◌>>=◌}
use Rattle.byte_texts.specs.Outcomes.{GivesOrMemory, RefusedOrMemory}
use Rattle.migrate_frames.specs.Batches.{Entry}
use Rattle.migrate_frames.specs.Faults.{is_memory}
use Rattle.migrate_frames.specs.declared.fault.FrameFault.{FrameFault}
use Rattle.migrate_frames.specs.declared.fault.FrameFault.TheVariants.{Truncated, BadKind, BadLength, RepeatedKey}
use Rattle.migrate_frames.specs.declared.fault.FrameFault.TheVariants.{Trailing}

-- what stands at the front, and the bytes after it
abbrev pub Read : Type 0 → Type 0
Read A = Result (A × List ℕ) FrameFault

-- What a function returned, seen by view, is what reading gives. It keeps what it reads as it goes, so that out of
-- memory may come before it knows more.
abbrev pub Fails : {Y : Type 0} → FrameFault → Result Y FrameFault → Type 0
Fails f read = RefusedOrMemory is_memory (Unit {0}) read f

abbrev pub Gives : {X Y : Type 0} → (X → Y) → Result X FrameFault → Result Y FrameFault → Type 0
Gives view result read = GivesOrMemory is_memory (Unit {0}) view read result

-- those before, with the one that was read after them
abbrev pub put_last : {A : Type 0} → List A → Read A → Read (List A)
put_last before read = read >>= λ x. Ok (before ++ x.0 ∷ [], x.1)

-- ---- numbers and pieces

-- so many bytes
unfoldable pub bytes_at : ℕ → List ℕ → Read (List ℕ)
bytes_at n bytes = if nat_lt (length bytes) n then Err Truncated else Ok (take n bytes, drop n bytes)

abbrev pub between : ℕ → ℕ → ℕ → List ℕ → Read ℕ
between least most n rest = if nat_lt n least || nat_lt most n then Err BadLength else Ok (n, rest)

-- a number of this width, big-endian, which has to be within these bounds
unfoldable pub number_at : Width → ℕ → ℕ → List ℕ → Read ℕ
number_at w least most bytes = do
  field ← bytes_at (byte_len w) bytes
  between least most (from_be_bytes w field.0) field.1

-- a length, and that many bytes
unfoldable pub piece_at : List ℕ → Read (List ℕ)
piece_at bytes = do
  n ← number_at w32 0 1048576 bytes
  bytes_at n.0 n.1

-- a piece that is none of those before it
unfoldable pub new_piece_at : List (List ℕ) → List ℕ → Read (List ℕ)
new_piece_at before bytes = do
  p ← piece_at bytes
  if has before p.0 then Err RepeatedKey else Ok p

-- ---- one after the other

-- those before, and so many more after them; each may look at those before it
abbrev pub many : {A : Type 0} → (List A → List ℕ → Read A) → List A → ℕ → List ℕ → Read (List A)
many one before zero bytes = Ok (before, bytes)
many one before (suc n) bytes = do
  x ← one before bytes
  many one (before ++ x.0 ∷ []) n x.1

-- a count, and that many
unfoldable pub counted_at : {A : Type 0} → (List A → List ℕ → Read A) → List ℕ → Read (List A)
counted_at one bytes = do
  n ← number_at w32 1 1048576 bytes
  many one [] n.0 n.1

-- ---- values

-- a field that the hash does not have, and its value
unfoldable pub pair_at : List (List ℕ × List ℕ) → List ℕ → Read (List ℕ × List ℕ)
pair_at before bytes = do
  name ← new_piece_at (keys_of before) bytes
  content ← piece_at name.1
  Ok ((name.0, content.0), content.1)

abbrev pub element_at : List (List ℕ) → List ℕ → Read (List ℕ)
element_at before bytes = piece_at bytes

abbrev pub as_value : {A : Type 0} → (A → Value) → Read A → Read Value
as_value make read = read >>= λ x. Ok (make x.0, x.1)

-- by the byte for the kind
unfoldable pub value_at : List ℕ → Read Value
value_at [] = Err Truncated
value_at (kind ∷ bytes) =
    if kind == 0 then as_value (λ t. value.Text t) (piece_at bytes) else
    if kind == 1 then as_value (λ es. value.Hash es) (counted_at pair_at bytes) else
    if kind == 2 then as_value (λ l. value.List l) (counted_at element_at bytes) else
    if kind == 3 then as_value (λ ms. value.Set ms) (counted_at new_piece_at bytes) else Err BadKind

-- ---- the frame

-- a key that no entry before has, and its value
unfoldable pub entry_at : List Entry → List ℕ → Read Entry
entry_at before bytes = do
  key ← new_piece_at (keys_of before) bytes
  content ← value_at key.1
  Ok ((key.0, content.0), content.1)

abbrev pub at_end : {A : Type 0} → A → List ℕ → Result A FrameFault
at_end x rest = if is_nil rest then Ok x else Err Trailing

unfoldable pub frame_at : List ℕ → Result (List Entry) FrameFault
frame_at bytes = do
  n ← number_at w16 1 1000 bytes
  es ← many entry_at [] n.0 n.1
  at_end es.0 es.1
