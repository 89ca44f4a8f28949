-- What is read, and a fault, stay whatever bytes follow; what is left is an end of the bytes.
use Rattle.std.proofs.Common.{◌≡◌, ℕ, zero, suc, Bool, true, false, cond, eqb, ltb, List, [], ◌∷◌, ◌++◌, length, take, drop, Option, Some, None, Result, Ok, Err, refl, sym, ap, ◌∙◌, append_assoc, arith, inl, inr}
use Rattle.std.proofs.lemmas.Bool.{cases_lt, lt-ltb, le-ltb}
use Rattle.std.proofs.lemmas.List.{length-append, take-append-le, drop-append-le, take-append-drop}
use Rattle.resp2_wire.specs.declared.fault.WireFault.{WireFault}
use Rattle.resp2_wire.specs.declared.fault.WireFault.TheVariants.{NotArray, BadCount, NotBulk, BadLength, TooLarge, MissingCrLf}
use Rattle.resp2_wire.specs.declared.fault.Stop.{Stop}
use Rattle.resp2_wire.specs.declared.fault.Stop.TheVariants.{Unfinished, Fault}
use Rattle.resp2_wire.specs.Faults.{is_memory}
use Rattle.resp2_wire.specs.Reading.{◌>>=◌, Numeral, numeral_of, byte_at, before_cr, or_fault, header_at, at_most, count_at, length_at, text_at, word_at, words_at, request_at}
use Rattle.resp2_wire.specs.Stability.{Kept}

abbrev pub Read : Type 0 → Type 0
Read A = Result (A × List ℕ) Stop

abbrev pub Cuts : {A : Type 0} → Read A → List ℕ → Type 0
Cuts (Ok x) bytes = (prefix : List ℕ) × (bytes ≡ prefix ++ x.1)
Cuts (Err e) bytes = Unit {0}

-- a fault that is read is none of memory's
abbrev pub Tells : {A : Type 0} → Result A Stop → Type 0
Tells (Err (Fault f)) = is_memory f ≡ false
Tells other = Unit {0}

pub record IsReader {A : Type 0} (f : List ℕ → Read A) : Type 0 where
  pub stays : (bytes more : List ℕ) → Kept (f bytes) (f (bytes ++ more)) more
  pub cuts : (bytes : List ℕ) → Cuts (f bytes) bytes
  pub tells : (bytes : List ℕ) → Tells (f bytes)

stays_bind : {A B : Type 0} (r r' : Read A) (more : List ℕ) (g : A → List ℕ → Read B) → Kept r r' more → ((a : A) → IsReader (g a)) → Kept (r >>= λ x. g x.0 x.1) (r' >>= λ x. g x.0 x.1) more
stays_bind (Ok x) r' more g h k = rw h ((k x.0).stays x.1 more)
stays_bind (Err (Fault f)) r' more g h k = rw h refl
stays_bind (Err Unfinished) r' more g h k = tt

pub cuts_more : {B : Type 0} (r : Read B) (bytes prefix rest : List ℕ) → bytes ≡ prefix ++ rest → Cuts r rest → Cuts r bytes
cuts_more (Ok x) bytes prefix rest e c = (prefix ++ c.0, e ∙ ap (λ (t : List ℕ). prefix ++ t) c.1 ∙ sym (append_assoc prefix c.0 x.1))
cuts_more (Err f) bytes prefix rest e c = tt

cuts_bind : {A B : Type 0} (r : Read A) (bytes : List ℕ) (g : A → List ℕ → Read B) → Cuts r bytes → ((a : A) → IsReader (g a)) → Cuts (r >>= λ x. g x.0 x.1) bytes
cuts_bind (Ok x) bytes g h k = cuts_more (g x.0 x.1) bytes h.0 x.1 h.1 ((k x.0).cuts x.1)
cuts_bind (Err f) bytes g h k = tt

tells_bind : {A B : Type 0} (r : Read A) (g : A → List ℕ → Read B) → Tells r → ((a : A) → IsReader (g a)) → Tells (r >>= λ x. g x.0 x.1)
tells_bind (Ok x) g h k = (k x.0).tells x.1
tells_bind (Err (Fault f)) g h k = h
tells_bind (Err Unfinished) g h k = tt

-- one reader, and then another
pub andthen : {A B : Type 0} (f : List ℕ → Read A) (g : A → List ℕ → Read B) → IsReader f → ((a : A) → IsReader (g a)) → IsReader (λ bytes. f bytes >>= λ x. g x.0 x.1)
andthen f g h k = record {
  stays = λ bytes more. stays_bind (f bytes) (f (bytes ++ more)) more g (h.stays bytes more) k;
  cuts = λ bytes. cuts_bind (f bytes) bytes g (h.cuts bytes) k;
  tells = λ bytes. tells_bind (f bytes) g (h.tells bytes) k;
}

pub returning : {A : Type 0} (a : A) → IsReader (λ bytes. Ok (a, bytes))
returning a = record { stays = λ bytes more. refl; cuts = λ bytes. ([], refl); tells = λ bytes. tt }

pub faulting : {A : Type 0} (f : WireFault) → is_memory f ≡ false → IsReader {A = A} (λ bytes. Err (Fault f))
faulting f ne = record { stays = λ bytes more. refl; cuts = λ bytes. tt; tells = λ bytes. ne }

pub choosing : {A : Type 0} (b : Bool) (f g : List ℕ → Read A) → IsReader f → IsReader g → IsReader (λ bytes. cond b (f bytes) (g bytes))
choosing true f g h k = h
choosing false f g h k = k

-- a reader that takes the first byte
pub first_byte : {A : Type 0} (f : List ℕ → Read A) (g : ℕ → List ℕ → Read A) → f [] ≡ Err Unfinished → ((b : ℕ) (bytes : List ℕ) → f (b ∷ bytes) ≡ g b bytes) → ((b : ℕ) → IsReader (g b)) → IsReader f
first_byte f g e h k = record {
  stays = elim [ [] ↦ λ more. rw e tt | b ∷ bytes ↦ λ more. rw (h b bytes, h b (bytes ++ more)) ((k b).stays bytes more) ];
  cuts = elim [ [] ↦ rw e tt | b ∷ bytes ↦ rw (h b bytes) (cuts_more (g b bytes) (b ∷ bytes) (b ∷ []) bytes refl ((k b).cuts bytes)) ];
  tells = elim [ [] ↦ rw e tt | b ∷ bytes ↦ rw (h b bytes) ((k b).tells bytes) ];
}

pub is_byte : (b : ℕ) (f : WireFault) → is_memory f ≡ false → IsReader (byte_at b f)
is_byte b f ne = first_byte (byte_at b f) (λ x rest. cond (eqb x b) (Ok (b, rest)) (Err (Fault f))) refl (λ x rest. refl) (λ x. choosing (eqb x b) (λ rest. Ok (b, rest)) (λ rest. Err (Fault f)) (returning b) (faulting f ne))

is_line : (f : WireFault) (n : ℕ) → is_memory f ≡ false → IsReader (before_cr f n)
unfolding before_cr
is_line f zero ne = faulting f ne
is_line f (suc n) ne =
    first_byte (before_cr f (suc n)) (λ b bytes. cond (eqb b 13) (Ok ([], bytes)) (before_cr f n bytes >>= λ x. Ok (b ∷ x.0, x.1))) refl (λ b bytes. refl)
    (λ b. choosing (eqb b 13) (λ bytes. Ok ([], bytes)) (λ bytes. before_cr f n bytes >>= λ x. Ok (b ∷ x.0, x.1)) (returning [])
    (andthen (before_cr f n) (λ text bytes. Ok (b ∷ text, bytes)) (is_line f n ne) (λ text. returning (b ∷ text))))

is_or_fault : {A : Type 0} (f : WireFault) (o : Option A) → is_memory f ≡ false → IsReader (λ rest. or_fault f rest o)
is_or_fault f None ne = faulting f ne
is_or_fault f (Some x) ne = returning x

pub is_header : (f : WireFault) → is_memory f ≡ false → IsReader (header_at f)
unfolding header_at
is_header f ne =
    andthen (before_cr f 21) (λ text rest. byte_at 10 MissingCrLf rest >>= λ lf. or_fault f lf.1 (numeral_of text)) (is_line f 21 ne)
    (λ text. andthen (byte_at 10 MissingCrLf) (λ lf rest. or_fault f rest (numeral_of text)) (is_byte 10 MissingCrLf refl)
    (λ lf. is_or_fault f (numeral_of text) ne))

pub is_at_most : (limit : ℕ) (n : Numeral) → IsReader (at_most limit n)
is_at_most limit n = choosing (ltb limit n.size) (λ rest. Err (Fault TooLarge)) (λ rest. Ok (n.size, rest)) (faulting TooLarge refl) (returning n.size)

pub is_count : IsReader count_at
unfolding count_at
is_count =
    andthen (byte_at 42 NotArray) (λ mark rest. header_at BadCount rest >>= λ n. cond n.0.negative (Ok (0, n.1)) (at_most 1024 n.0 n.1)) (is_byte 42 NotArray refl)
    (λ mark. andthen (header_at BadCount) (λ n rest. cond n.negative (Ok (0, rest)) (at_most 1024 n rest)) (is_header BadCount refl)
    (λ n. choosing n.negative (λ rest. Ok (0, rest)) (at_most 1024 n) (returning 0) (is_at_most 1024 n)))

is_length : IsReader length_at
unfolding length_at
is_length =
    andthen (byte_at 36 NotBulk) (λ mark rest. header_at BadLength rest >>= λ n. cond n.0.negative (Err (Fault BadLength)) (at_most 1048576 n.0 n.1)) (is_byte 36 NotBulk refl)
    (λ mark. andthen (header_at BadLength) (λ n rest. cond n.negative (Err (Fault BadLength)) (at_most 1048576 n rest)) (is_header BadLength refl)
    (λ n. choosing n.negative (λ rest. Err (Fault BadLength)) (at_most 1048576 n) (faulting BadLength refl) (is_at_most 1048576 n)))

text_stays : (n : ℕ) (bytes more : List ℕ) → Kept (text_at n bytes) (text_at n (bytes ++ more)) more
text_stays n bytes more =
    elim (cases_lt (length bytes) n) [
      | inl lt ↦ rw (lt-ltb _ _ lt) tt
      | inr le ↦
          let longer : ltb (length (bytes ++ more)) n ≡ false = le-ltb _ _ (omega (arith, length-append bytes more)) in
          rw (le-ltb _ _ le, longer, take-append-le, drop-append-le) refl
    ]

text_cuts : (n : ℕ) (bytes : List ℕ) → Cuts (text_at n bytes) bytes
text_cuts n bytes =
    elim (cases_lt (length bytes) n) [
      | inl lt ↦ rw (lt-ltb _ _ lt) tt
      | inr le ↦ rw (le-ltb _ _ le) (take n bytes, sym (take-append-drop n bytes))
    ]

text_tells : {A : Type 0} (b : Bool) (x : A) → Tells (cond b (Err Unfinished) (Ok x))
text_tells true x = tt
text_tells false x = tt

pub is_text : (n : ℕ) → IsReader (text_at n)
is_text n = record { stays = text_stays n; cuts = text_cuts n; tells = λ bytes. text_tells (ltb (length bytes) n) (take n bytes, drop n bytes) }

pub is_word : IsReader word_at
unfolding word_at
is_word =
    andthen length_at (λ n rest. text_at n rest >>= λ text. byte_at 13 MissingCrLf text.1 >>= λ cr. byte_at 10 MissingCrLf cr.1 >>= λ lf. Ok (text.0, lf.1)) is_length
    (λ n. andthen (text_at n) (λ text rest. byte_at 13 MissingCrLf rest >>= λ cr. byte_at 10 MissingCrLf cr.1 >>= λ lf. Ok (text, lf.1)) (is_text n)
    (λ text. andthen (byte_at 13 MissingCrLf) (λ cr rest. byte_at 10 MissingCrLf rest >>= λ lf. Ok (text, lf.1)) (is_byte 13 MissingCrLf refl)
    (λ cr. andthen (byte_at 10 MissingCrLf) (λ lf rest. Ok (text, rest)) (is_byte 10 MissingCrLf refl)
    (λ lf. returning text))))

pub is_words : (n : ℕ) → IsReader (words_at n)
unfolding words_at
is_words zero = returning []
is_words (suc n) =
    andthen word_at (λ first rest. words_at n rest >>= λ others. Ok (first ∷ others.0, others.1)) is_word
    (λ first. andthen (words_at n) (λ others rest. Ok (first ∷ others, rest)) (is_words n)
    (λ others. returning (first ∷ others)))

pub is_request : IsReader request_at
unfolding request_at
is_request = andthen count_at (λ n rest. words_at n rest) is_count is_words
