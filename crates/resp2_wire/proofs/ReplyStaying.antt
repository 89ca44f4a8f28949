-- A reply and a fault that are read stay, whatever follows.
use Rattle.std.proofs.Common.{ℕ, zero, suc, cond, eqb, ltb, ◌-◌, ◌^◌, List, [], ◌∷◌, Ok, Err, refl}
use Rattle.std.specs.Prelude.{pos, negsuc}
use Rattle.resp2_wire.specs.declared.fault.WireFault.TheVariants.{BadCount, BadLength, TooLarge, MissingCrLf, BadMark}
use Rattle.resp2_wire.specs.declared.fault.Stop.TheVariants.{Fault}
use Rattle.resp2_wire.specs.Reading.{◌>>=◌, Numeral, byte_at, header_at, text_at}
use Rattle.resp2_wire.proofs.Staying.{IsReader, andthen, returning, faulting, choosing, first_byte, is_byte, is_header, is_text}
use Rattle.resp2_wire.specs.Tree.{Tree, simple, error, number, bulk, null, null_array, array, none, more}
use Rattle.resp2_wire.specs.Replies.{Read, line_at, simple_at, error_at, number_at, number_from, bulk_at, bulk_of, many, array_of, array_at, by_mark}
use Rattle.resp2_wire.specs.ReplyLaws.{DecodedRepliesAreStable}

is_lf : IsReader {A = List ℕ} (λ bytes. byte_at 10 MissingCrLf bytes >>= λ x. Ok ([], x.1))
is_lf = andthen (byte_at 10 MissingCrLf) (λ lf rest. Ok ([], rest)) (is_byte 10 MissingCrLf refl) (λ lf. returning [])

is_many : (one : List ℕ → Read Tree) → IsReader one → (n : ℕ) → IsReader (many one n)
is_many one h zero = returning none
is_many one h (suc n) =
    andthen one (λ first rest. many one n rest >>= λ others. Ok (more first others.0, others.1)) h
    (λ first. andthen (many one n) (λ others rest. Ok (more first others, rest)) (is_many one h n)
    (λ others. returning (more first others)))

pub is_text_line : (n : ℕ) → IsReader (line_at n)
unfolding line_at
is_text_line zero =
    first_byte (line_at zero) (λ b bytes. cond (eqb b 13) (byte_at 10 MissingCrLf bytes >>= λ x. Ok ([], x.1)) (cond (eqb b 10) (Err (Fault MissingCrLf)) (Err (Fault TooLarge)))) refl (λ b bytes. refl)
    (λ b. choosing (eqb b 13) (λ bytes. byte_at 10 MissingCrLf bytes >>= λ x. Ok ([], x.1)) (λ bytes. cond (eqb b 10) (Err (Fault MissingCrLf)) (Err (Fault TooLarge))) is_lf
    (choosing (eqb b 10) (λ bytes. Err (Fault MissingCrLf)) (λ bytes. Err (Fault TooLarge)) (faulting MissingCrLf refl) (faulting TooLarge refl)))
is_text_line (suc n) =
    first_byte (line_at (suc n)) (λ b bytes. cond (eqb b 13) (byte_at 10 MissingCrLf bytes >>= λ x. Ok ([], x.1)) (cond (eqb b 10) (Err (Fault MissingCrLf)) (line_at n bytes >>= λ x. Ok (b ∷ x.0, x.1)))) refl (λ b bytes. refl)
    (λ b. choosing (eqb b 13) (λ bytes. byte_at 10 MissingCrLf bytes >>= λ x. Ok ([], x.1)) (λ bytes. cond (eqb b 10) (Err (Fault MissingCrLf)) (line_at n bytes >>= λ x. Ok (b ∷ x.0, x.1))) is_lf
    (choosing (eqb b 10) (λ bytes. Err (Fault MissingCrLf)) (λ bytes. line_at n bytes >>= λ x. Ok (b ∷ x.0, x.1)) (faulting MissingCrLf refl)
    (andthen (line_at n) (λ text rest. Ok (b ∷ text, rest)) (is_text_line n) (λ text. returning (b ∷ text)))))

is_array_of : (one : List ℕ → Read Tree) → IsReader one → (n : Numeral) → IsReader (array_of one n)
is_array_of one h n =
    choosing n.negative (λ rest. cond (eqb n.size 1) (Ok (null_array, rest)) (Err (Fault BadCount))) (λ rest. cond (ltb 2097152 n.size) (Err (Fault TooLarge)) (many one n.size rest >>= λ x. Ok (array x.0, x.1)))
    (choosing (eqb n.size 1) (λ rest. Ok (null_array, rest)) (λ rest. Err (Fault BadCount)) (returning null_array) (faulting BadCount refl))
    (choosing (ltb 2097152 n.size) (λ rest. Err (Fault TooLarge)) (λ rest. many one n.size rest >>= λ x. Ok (array x.0, x.1)) (faulting TooLarge refl)
    (andthen (many one n.size) (λ ts rest. Ok (array ts, rest)) (is_many one h n.size) (λ ts. returning (array ts))))

is_simple : IsReader simple_at
unfolding simple_at
is_simple = andthen (line_at 1024) (λ text rest. Ok (simple text, rest)) (is_text_line 1024) (λ text. returning (simple text))

is_error : IsReader error_at
unfolding error_at
is_error = andthen (line_at 1024) (λ text rest. Ok (error text, rest)) (is_text_line 1024) (λ text. returning (error text))

is_number_of : (n : Numeral) → IsReader (number_from n)
is_number_of n =
    choosing n.negative (λ rest. cond (ltb (2 ^ 63) n.size) (Err (Fault BadCount)) (Ok (number (negsuc (n.size - 1)), rest))) (λ rest. cond (ltb (2 ^ 63 - 1) n.size) (Err (Fault BadCount)) (Ok (number (pos n.size), rest)))
    (choosing (ltb (2 ^ 63) n.size) (λ rest. Err (Fault BadCount)) (λ rest. Ok (number (negsuc (n.size - 1)), rest)) (faulting BadCount refl) (returning (number (negsuc (n.size - 1)))))
    (choosing (ltb (2 ^ 63 - 1) n.size) (λ rest. Err (Fault BadCount)) (λ rest. Ok (number (pos n.size), rest)) (faulting BadCount refl) (returning (number (pos n.size))))

pub is_number : IsReader number_at
unfolding number_at
is_number = andthen (header_at BadCount) (λ n rest. number_from n rest) (is_header BadCount refl) is_number_of

is_bulk_text : (n : ℕ) → IsReader (λ rest. text_at n rest >>= λ text. byte_at 13 MissingCrLf text.1 >>= λ cr. byte_at 10 MissingCrLf cr.1 >>= λ lf. Ok (bulk text.0, lf.1))
is_bulk_text n =
    andthen (text_at n) (λ text rest. byte_at 13 MissingCrLf rest >>= λ cr. byte_at 10 MissingCrLf cr.1 >>= λ lf. Ok (bulk text, lf.1)) (is_text n)
    (λ text. andthen (byte_at 13 MissingCrLf) (λ cr rest. byte_at 10 MissingCrLf rest >>= λ lf. Ok (bulk text, lf.1)) (is_byte 13 MissingCrLf refl)
    (λ cr. andthen (byte_at 10 MissingCrLf) (λ lf rest. Ok (bulk text, rest)) (is_byte 10 MissingCrLf refl)
    (λ lf. returning (bulk text))))

is_bulk_of : (n : Numeral) → IsReader (bulk_of n)
is_bulk_of n =
    choosing n.negative (λ rest. cond (eqb n.size 1) (Ok (null, rest)) (Err (Fault BadLength))) (λ rest. cond (ltb 1048576 n.size) (Err (Fault TooLarge)) (text_at n.size rest >>= λ text. byte_at 13 MissingCrLf text.1 >>= λ cr. byte_at 10 MissingCrLf cr.1 >>= λ lf. Ok (bulk text.0, lf.1)))
    (choosing (eqb n.size 1) (λ rest. Ok (null, rest)) (λ rest. Err (Fault BadLength)) (returning null) (faulting BadLength refl))
    (choosing (ltb 1048576 n.size) (λ rest. Err (Fault TooLarge)) (λ rest. text_at n.size rest >>= λ text. byte_at 13 MissingCrLf text.1 >>= λ cr. byte_at 10 MissingCrLf cr.1 >>= λ lf. Ok (bulk text.0, lf.1)) (faulting TooLarge refl) (is_bulk_text n.size))

is_bulk : IsReader bulk_at
unfolding bulk_at
is_bulk = andthen (header_at BadLength) (λ n rest. bulk_of n rest) (is_header BadLength refl) is_bulk_of

pub is_mark : (nested : List ℕ → Read Tree) → IsReader nested → IsReader (by_mark nested)
unfolding by_mark
is_mark nested h =
    first_byte (by_mark nested) (λ b bytes. cond (eqb b 43) (simple_at bytes) (cond (eqb b 45) (error_at bytes) (cond (eqb b 58) (number_at bytes) (cond (eqb b 36) (bulk_at bytes) (cond (eqb b 42) (nested bytes) (Err (Fault BadMark))))))) refl (λ b bytes. refl)
    (λ b. choosing (eqb b 43) simple_at (λ bytes. cond (eqb b 45) (error_at bytes) (cond (eqb b 58) (number_at bytes) (cond (eqb b 36) (bulk_at bytes) (cond (eqb b 42) (nested bytes) (Err (Fault BadMark)))))) is_simple
    (choosing (eqb b 45) error_at (λ bytes. cond (eqb b 58) (number_at bytes) (cond (eqb b 36) (bulk_at bytes) (cond (eqb b 42) (nested bytes) (Err (Fault BadMark))))) is_error
    (choosing (eqb b 58) number_at (λ bytes. cond (eqb b 36) (bulk_at bytes) (cond (eqb b 42) (nested bytes) (Err (Fault BadMark)))) is_number
    (choosing (eqb b 36) bulk_at (λ bytes. cond (eqb b 42) (nested bytes) (Err (Fault BadMark))) is_bulk
    (choosing (eqb b 42) nested (λ bytes. Err (Fault BadMark)) h (faulting BadMark refl))))))

pub is_array : (depth : ℕ) → IsReader (array_at depth)
unfolding array_at
is_array zero = faulting TooLarge refl
is_array (suc depth) =
    andthen (header_at BadCount) (λ n rest. array_of (by_mark (array_at depth)) n rest) (is_header BadCount refl)
    (λ n. is_array_of (by_mark (array_at depth)) (is_mark (array_at depth) (is_array depth)) n)

pub decoded_replies_are_stable : DecodedRepliesAreStable
decoded_replies_are_stable = (is_mark (array_at 8) (is_array 8)).stays
