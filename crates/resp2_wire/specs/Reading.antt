-- The request at the beginning of some bytes, by the RESP specification
-- (https://redis.io/docs/latest/develop/reference/protocol-spec/) and the limits of this program: an array of bulk
-- strings, with the bytes after it, or the leftmost fault, or that the bytes end too early. Inline commands are faults.
use Rattle.std.specs.Prelude.{◌≡◌, ℕ, zero, suc, ◌+◌, ◌-◌, ◌*◌, Bool, true, false, List, [], ◌∷◌, length, take, drop}
use Rattle.std.specs.Prelude.{Option, Some, None, Result, Ok, Err, nat_lt, nat_le, ◌==◌, ◌&&◌, if◌then◌else◌}
pub use Rattle.byte_texts.specs.Decimals.{numeral_of}
pub use Rattle.byte_texts.specs.Outcomes.{◌>>=◌}
pub use Rattle.byte_texts.specs.declared.decimals.Numeral.{Numeral}
use Rattle.byte_texts.specs.declared.text.TheConstants.{MAX_BYTES}
use Rattle.resp2_wire.specs.declared.request.TheConstants.{MAX_WORDS}
use Rattle.resp2_wire.specs.declared.fault.WireFault.{WireFault}
use Rattle.resp2_wire.specs.declared.fault.WireFault.TheVariants.{NotArray, BadCount, NotBulk, BadLength, TooLarge}
use Rattle.resp2_wire.specs.declared.fault.WireFault.TheVariants.{MissingCrLf}
use Rattle.resp2_wire.specs.declared.fault.Stop.{Stop}
use Rattle.resp2_wire.specs.declared.fault.Stop.TheVariants.{Unfinished, Fault}

-- What a function returned, seen by view, is what reading gives.
abbrev pub Reads : {X Y : Type 0} → (X → Y) → Result X Stop → Result Y Stop → Type 0
Reads view (Ok x) read = read ≡ Ok (view x)
Reads view (Err e) read = read ≡ Err e

-- ---- a header line

-- the byte that has to stand next
abbrev pub byte_at : ℕ → WireFault → List ℕ → Result (ℕ × List ℕ) Stop
byte_at b f [] = Err Unfinished
byte_at b f (x ∷ rest) = if x == b then Ok (b, rest) else Err (Fault f)

-- what stands before the first CR, which has to be among the first n bytes, and what stands after it
unfoldable pub before_cr : WireFault → ℕ → List ℕ → Result (List ℕ × List ℕ) Stop
before_cr f zero bytes = Err (Fault f)
before_cr f (suc n) [] = Err Unfinished
before_cr f (suc n) (b ∷ bytes) = if b == 13 then Ok ([], bytes) else (before_cr f n bytes >>= λ x. Ok (b ∷ x.0, x.1))

abbrev pub or_fault : {A : Type 0} → WireFault → List ℕ → Option A → Result (A × List ℕ) Stop
or_fault f rest None = Err (Fault f)
or_fault f rest (Some x) = Ok (x, rest)

-- a number and its line's end
unfoldable pub header_at : WireFault → List ℕ → Result (Numeral × List ℕ) Stop
header_at f bytes = do
  text ← before_cr f 21 bytes
  lf ← byte_at 10 MissingCrLf text.1
  or_fault f lf.1 (numeral_of text.0)

-- ---- requests

abbrev pub at_most : ℕ → Numeral → List ℕ → Result (ℕ × List ℕ) Stop
at_most limit n rest = if nat_lt limit n.size then Err (Fault TooLarge) else Ok (n.size, rest)

-- how many words a request has: none where the count is 0 or below
unfoldable pub count_at : List ℕ → Result (ℕ × List ℕ) Stop
count_at bytes = do
  mark ← byte_at 42 NotArray bytes
  n ← header_at BadCount mark.1
  if n.0.negative then Ok (0, n.1) else at_most MAX_WORDS n.0 n.1

unfoldable pub length_at : List ℕ → Result (ℕ × List ℕ) Stop
length_at bytes = do
  mark ← byte_at 36 NotBulk bytes
  n ← header_at BadLength mark.1
  if n.0.negative then Err (Fault BadLength) else at_most MAX_BYTES n.0 n.1

abbrev pub text_at : ℕ → List ℕ → Result (List ℕ × List ℕ) Stop
text_at n bytes = if nat_lt (length bytes) n then Err Unfinished else Ok (take n bytes, drop n bytes)

-- a bulk string
unfoldable pub word_at : List ℕ → Result (List ℕ × List ℕ) Stop
word_at bytes = do
  n ← length_at bytes
  text ← text_at n.0 n.1
  cr ← byte_at 13 MissingCrLf text.1
  lf ← byte_at 10 MissingCrLf cr.1
  Ok (text.0, lf.1)

unfoldable pub words_at : ℕ → List ℕ → Result (List (List ℕ) × List ℕ) Stop
words_at zero bytes = Ok ([], bytes)
words_at (suc n) bytes = do
  first ← word_at bytes
  others ← words_at n first.1
  Ok (first.0 ∷ others.0, others.1)

-- the request at the beginning, an empty one too
unfoldable pub request_at : List ℕ → Result (List (List ℕ) × List ℕ) Stop
request_at bytes = do
  n ← count_at bytes
  words_at n.0 n.1
