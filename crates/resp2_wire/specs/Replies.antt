-- A reply at the beginning of some bytes, by the RESP specification
-- (https://redis.io/docs/latest/develop/reference/protocol-spec/) and the limits of this program: the reply with
-- the bytes after it, or the leftmost fault, or that the bytes end too early.
use Rattle.std.specs.Prelude.{◌≡◌, ◌⊎◌, ℕ, Bool, true, false, zero, suc, ◌-◌, ◌^◌, pos, negsuc, List, [], ◌∷◌}
use Rattle.std.specs.Prelude.{Result, Ok, Err, nat_lt, ◌==◌}
use Rattle.std.specs.Prelude.{if◌then◌else◌}
use Rattle.byte_texts.specs.Outcomes.{GivesOrMemory, IsAnswered, RefusedOrMemory}
use Rattle.byte_texts.specs.declared.text.TheConstants.{MAX_BYTES}
use Rattle.resp2_wire.specs.declared.limits.TheConstants.{MAX_LINE_BYTES, MAX_REPLIES}
use Rattle.resp2_wire.specs.declared.fault.WireFault.TheVariants.{BadCount, BadLength, TooLarge, MissingCrLf, BadMark}
use Rattle.resp2_wire.specs.declared.fault.Stop.{Stop}
use Rattle.resp2_wire.specs.declared.fault.Stop.TheVariants.{Unfinished, Fault}
use Rattle.resp2_wire.specs.Faults.{is_memory}
use Rattle.resp2_wire.specs.Reading.{◌>>=◌, Numeral, byte_at, header_at, text_at}
use Rattle.resp2_wire.specs.Tree.{Tree, Trees, simple, error, number, bulk, null, null_array, array, none, more}

abbrev pub Read : Type 0 → Type 0
Read A = Result (A × List ℕ) Stop

abbrev pub stops_by_memory : Stop → Bool
stops_by_memory (Fault f) = is_memory f
stops_by_memory Unfinished = false

-- What a function returned, seen by view, is what reading gives. It keeps what it reads as it goes, so that out of
-- memory may come before it knows more.
abbrev pub Fails : {Y : Type 0} → Stop → Result Y Stop → Type 0
Fails e read = RefusedOrMemory stops_by_memory (Unit {0}) read e

abbrev pub Gives : {X Y : Type 0} → (X → Y) → Result X Stop → Result Y Stop → Type 0
Gives view result read = GivesOrMemory stops_by_memory (Unit {0}) view read result

-- a text of at most n bytes, up to its CR LF
unfoldable pub line_at : ℕ → List ℕ → Read (List ℕ)
line_at n [] = Err Unfinished
line_at zero (b ∷ bytes) = if b == 13 then (byte_at 10 MissingCrLf bytes >>= λ x. Ok ([], x.1))
    else if b == 10 then Err (Fault MissingCrLf) else Err (Fault TooLarge)
line_at (suc n) (b ∷ bytes) = if b == 13 then (byte_at 10 MissingCrLf bytes >>= λ x. Ok ([], x.1))
    else if b == 10 then Err (Fault MissingCrLf) else (line_at n bytes >>= λ x. Ok (b ∷ x.0, x.1))

-- a number of 64 bits
abbrev pub number_from : Numeral → List ℕ → Read Tree
number_from n rest = if n.negative
    then (if nat_lt (2 ^ 63) n.size then Err (Fault BadCount) else Ok (number (negsuc (n.size - 1)), rest))
    else if nat_lt (2 ^ 63 - 1) n.size then Err (Fault BadCount) else Ok (number (pos n.size), rest)

-- a length, and its bytes, or -1
abbrev pub bulk_of : Numeral → List ℕ → Read Tree
bulk_of n rest = if n.negative then (if n.size == 1 then Ok (null, rest) else Err (Fault BadLength))
    else if nat_lt MAX_BYTES n.size then Err (Fault TooLarge) else do
      text ← text_at n.size rest
      cr ← byte_at 13 MissingCrLf text.1
      lf ← byte_at 10 MissingCrLf cr.1
      Ok (bulk text.0, lf.1)

-- so many replies
abbrev pub many : (List ℕ → Read Tree) → ℕ → List ℕ → Read Trees
many one zero bytes = Ok (none, bytes)
many one (suc n) bytes = do
  first ← one bytes
  others ← many one n first.1
  Ok (more first.0 others.0, others.1)

abbrev pub array_of : (List ℕ → Read Tree) → Numeral → List ℕ → Read Tree
array_of one n rest = if n.negative then (if n.size == 1 then Ok (null_array, rest) else Err (Fault BadCount))
    else if nat_lt MAX_REPLIES n.size then Err (Fault TooLarge)
    else (many one n.size rest >>= λ x. Ok (array x.0, x.1))

unfoldable pub simple_at : List ℕ → Read Tree
simple_at bytes = do
  text ← line_at MAX_LINE_BYTES bytes
  Ok (simple text.0, text.1)

unfoldable pub error_at : List ℕ → Read Tree
error_at bytes = do
  text ← line_at MAX_LINE_BYTES bytes
  Ok (error text.0, text.1)

unfoldable pub number_at : List ℕ → Read Tree
number_at bytes = do
  n ← header_at BadCount bytes
  number_from n.0 n.1

unfoldable pub bulk_at : List ℕ → Read Tree
bulk_at bytes = do
  n ← header_at BadLength bytes
  bulk_of n.0 n.1

-- by the first byte
unfoldable pub by_mark : (List ℕ → Read Tree) → List ℕ → Read Tree
by_mark nested [] = Err Unfinished
by_mark nested (b ∷ bytes) =
    if b == 43 then simple_at bytes else
    if b == 45 then error_at bytes else
    if b == 58 then number_at bytes else
    if b == 36 then bulk_at bytes else
    if b == 42 then nested bytes else Err (Fault BadMark)

-- an array of this depth at most, after its mark
unfoldable pub array_at : ℕ → List ℕ → Read Tree
array_at zero bytes = Err (Fault TooLarge)
array_at (suc depth) bytes = do
  n ← header_at BadCount bytes
  array_of (by_mark (array_at depth)) n.0 n.1

-- a reply of this depth at most
abbrev pub reply_at : ℕ → List ℕ → Read Tree
reply_at depth = by_mark (array_at depth)

-- ---- out of memory

-- where a function stopped by out of memory
abbrev pub OnMemory : {X : Type 0} → Result X Stop → Type 0 → Type 0
OnMemory (Ok x) P = Unit {0}
OnMemory (Err e) P = elim (stops_by_memory e) as (λ b. Type 0) [ true ↦ P | false ↦ Unit {0} ]

-- the bytes begin with the mark of an array
abbrev pub begins_array : List ℕ → Bool
begins_array [] = false
begins_array (b ∷ bytes) = b == 42

-- Out of memory may come in the place of a reply, and of a fault in an array alone, since its replies are kept as they
-- are read.
abbrev pub MayTakeMemory : ℕ → List ℕ → Type 0
MayTakeMemory depth bytes = IsAnswered (reply_at depth bytes) ⊎ (begins_array bytes ≡ true)
