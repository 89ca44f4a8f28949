-- What is written is read again.
use Rattle.std.proofs.Common.{◌≡◌, ◌≢◌, ℕ, zero, suc, ◌+◌, ◌-◌, ◌≤◌, ◌<◌, ◌^◌, Bool, true, false, ◌&&◌, eqb, ltb, List, [], ◌∷◌, ◌++◌, length, get_or, leb, ◌*◌, ◌/◌, ◌%◌, Some, Ok, refl, ap, subst, ◌∙◌, append_assoc, arith, decimal, ne_eqb}
use Rattle.std.proofs.lemmas.Bool.{le-ltb, le-leb}
use Rattle.std.proofs.lemmas.Fmt.{length-decimal-le}
use Rattle.std.proofs.lemmas.Bool.Decides.{nat_tests}
use Rattle.std.proofs.lemmas.List.{append-nil, length-append, take_at, drop_at}
use Rattle.std.specs.Prelude.{pos, negsuc}
use Rattle.resp2_wire.specs.declared.fault.WireFault.{WireFault}
use Rattle.resp2_wire.specs.declared.fault.WireFault.TheVariants.{BadCount, BadLength}
use Rattle.std.specs.List.{list_all}
use Rattle.byte_texts.specs.Decimals.{is_digit, numeral_of}
use Rattle.byte_texts.proofs.Numerals.{are_digits, negative_again, numeral_again}
use Rattle.resp2_wire.specs.Reading.{before_cr, header_at}
use Rattle.resp2_wire.specs.Tree.{Tree, Trees, simple, error, number, bulk, null, null_array, array, none, more}
use Rattle.resp2_wire.specs.Encoding.{length_of, line, encoding, spellings}
use Rattle.resp2_wire.specs.Replies.{Read, line_at, simple_at, error_at, number_at, bulk_at, many, array_at, by_mark, reply_at}
use Rattle.resp2_wire.specs.ReplyLaws.{DecodingInvertsEncoding}
use Rattle.resp2_wire.specs.Limits.{NoLineEnd, Fits, AllFit}

-- ---- numbers

NoCr : List ℕ → Type 0
NoCr [] = Unit {0}
NoCr (b ∷ text) = (b ≢ 13) × NoCr text

cr_again : (f : WireFault) (n : ℕ) (text rest : List ℕ) → NoCr text → length text < n → before_cr f n (text ++ 13 ∷ rest) ≡ Ok (text, rest)
unfolding before_cr NoCr
cr_again f zero text rest h lt = absurd (omega arith)
cr_again f (suc n) [] rest h lt = refl
cr_again f (suc n) (b ∷ text) rest h lt =
    let cr : eqb b 13 ≡ false = ne_eqb _ _ h.0 in
    rw (cr, cr_again f n text rest h.1 (omega arith)) refl

both_hold : (a b : Bool) → (a && b) ≡ true → (a ≡ true) × (b ≡ true)
both_hold true b h = (refl, h)
both_hold false b h = cc

not_cr : (b : ℕ) → is_digit b ≡ true → b ≢ 13
not_cr b h e = grind (arith, nat_tests)

-- no digit is a CR
no_cr_digits : (ds : List ℕ) → list_all is_digit ds ≡ true → NoCr ds
unfolding NoCr
no_cr_digits [] h = tt
no_cr_digits (b ∷ ds) h =
    let both = both_hold (is_digit b) (list_all is_digit ds) h in (not_cr b both.0, no_cr_digits ds both.1)

decimal_no_cr : (n : ℕ) → n < 10 ^ 64 → NoCr (decimal n)
decimal_no_cr n lt = no_cr_digits (decimal n) (are_digits n lt)

negative_header : (f : WireFault) (n : ℕ) (rest : List ℕ) → n < 2 ^ 63 → header_at f (45 ∷ (decimal (suc n) ++ 13 ∷ 10 ∷ rest)) ≡ Ok (record { negative = true; size = suc n }, rest)
unfolding header_at NoCr
negative_header f n rest lt =
    let digits = decimal_no_cr (suc n) (omega arith) in
    let short : length (decimal (suc n)) ≤ 19 = length-decimal-le 19 (suc n) (omega arith) (omega arith) (omega arith) in
    let line = cr_again f 21 (45 ∷ decimal (suc n)) (10 ∷ rest) (omega arith, digits) (omega arith) in
    rw (line, negative_again n (omega arith)) refl

-- a number of 64 bits in its header
pub header_again : (f : WireFault) (n : ℕ) (rest : List ℕ) → n < 2 ^ 64 → header_at f (decimal n ++ 13 ∷ 10 ∷ rest) ≡ Ok (record { negative = false; size = n }, rest)
unfolding header_at
header_again f n rest lt =
    let digits = decimal_no_cr n (omega arith) in
    let short : length (decimal n) ≤ 20 = length-decimal-le 20 n (omega arith) (omega arith) lt in
    rw (cr_again f 21 (decimal n) (10 ∷ rest) digits (omega arith), numeral_again n lt) refl

line_again : (n : ℕ) (text rest : List ℕ) → NoLineEnd text → length text ≤ n → line_at n (text ++ 13 ∷ 10 ∷ rest) ≡ Ok (text, rest)
unfolding line_at
line_again zero [] rest h le = refl
line_again (suc n) [] rest h le = refl
line_again zero (b ∷ text) rest h le = absurd (omega arith)
line_again (suc n) (b ∷ text) rest h le =
    let cr : eqb b 13 ≡ false = ne_eqb _ _ h.0 in
    let lf : eqb b 10 ≡ false = ne_eqb _ _ h.1 in
    rw (cr, lf, line_again n text rest h.2 (omega arith)) refl

-- spelled lines, regrouped
pub line-rest : (mark : ℕ) (text rest : List ℕ) → line mark text ++ rest ≡ mark ∷ (text ++ 13 ∷ 10 ∷ rest)
line-rest mark text rest = ap (λ (t : List ℕ). mark ∷ t) (append_assoc text (13 ∷ 10 ∷ []) rest)

simple_again : (nested : List ℕ → Read Tree) (t rest : List ℕ) → NoLineEnd t → length t ≤ 1024 → by_mark nested (line 43 t ++ rest) ≡ Ok (simple t, rest)
unfolding by_mark simple_at
simple_again nested t rest h le = rw (append_assoc t (13 ∷ 10 ∷ []) rest, line_again 1024 t rest h le) refl

array_again : (depth : ℕ) (ts : Trees) (rest : List ℕ) → length_of ts ≤ 2097152 → many (reply_at depth) (length_of ts) (spellings ts ++ rest) ≡ Ok (ts, rest) → reply_at (suc depth) (encoding (array ts) ++ rest) ≡ Ok (array ts, rest)
unfolding by_mark array_at
array_again depth ts rest le h =
    let small : ltb 2097152 (length_of ts) ≡ false = le-ltb _ _ le in
    let bytes : encoding (array ts) ++ rest ≡ 42 ∷ (decimal (length_of ts) ++ 13 ∷ 10 ∷ (spellings ts ++ rest)) = append_assoc (line 42 (decimal (length_of ts))) (spellings ts) rest ∙ line-rest 42 (decimal (length_of ts)) (spellings ts ++ rest) in
    ap (reply_at (suc depth)) bytes ∙ rw (header_again BadCount (length_of ts) (spellings ts ++ rest) (omega arith), small, h) refl

fits_down : (depth : ℕ) (ts : Trees) → AllFit (suc depth - 1) ts → AllFit depth ts
fits_down depth ts h = let e : suc depth - 1 ≡ depth = omega arith in subst (λ (d : ℕ). AllFit d ts) e h

error_again : (nested : List ℕ → Read Tree) (t rest : List ℕ) → NoLineEnd t → length t ≤ 1024 → by_mark nested (line 45 t ++ rest) ≡ Ok (error t, rest)
unfolding by_mark error_at
error_again nested t rest h le = rw (append_assoc t (13 ∷ 10 ∷ []) rest, line_again 1024 t rest h le) refl

null_again : (nested : List ℕ → Read Tree) (rest : List ℕ) → by_mark nested (encoding null ++ rest) ≡ Ok (null, rest)
unfolding by_mark bulk_at header_at before_cr numeral_of
null_again nested rest = refl

null_array_again : (depth : ℕ) (rest : List ℕ) → 0 < depth → reply_at depth (encoding null_array ++ rest) ≡ Ok (null_array, rest)
unfolding by_mark array_at header_at before_cr numeral_of
null_array_again zero rest lt = absurd (omega arith)
null_array_again (suc depth) rest lt = refl

bulk_again : (nested : List ℕ → Read Tree) (t rest : List ℕ) → length t ≤ 1048576 → by_mark nested (encoding (bulk t) ++ rest) ≡ Ok (bulk t, rest)
unfolding by_mark bulk_at
bulk_again nested t rest le =
    let small : ltb 1048576 (length t) ≡ false = le-ltb _ _ le in
    let after : List ℕ = t ++ 13 ∷ 10 ∷ rest in
    let long : ltb (length (t ++ 13 ∷ 10 ∷ rest)) (length t) ≡ false = le-ltb _ _ (omega (arith, length-append t (13 ∷ 10 ∷ rest))) in
    let bytes : encoding (bulk t) ++ rest ≡ 36 ∷ (decimal (length t) ++ 13 ∷ 10 ∷ (t ++ 13 ∷ 10 ∷ rest)) = simp append_assoc in
    ap (by_mark nested) bytes ∙ rw (header_again BadLength (length t) (t ++ 13 ∷ 10 ∷ rest) (omega arith), small, long, take_at t (13 ∷ 10 ∷ rest) (length t) refl, drop_at t (13 ∷ 10 ∷ rest) (length t) refl) refl

positive_number_again : (nested : List ℕ → Read Tree) (n : ℕ) (rest : List ℕ) → n < 2 ^ 63 → by_mark nested (line 58 (decimal n) ++ rest) ≡ Ok (number (pos n), rest)
unfolding by_mark number_at
positive_number_again nested n rest lt =
    let small : ltb (2 ^ 63 - 1) n ≡ false = le-ltb _ _ (omega arith) in
    rw (append_assoc (decimal n) (13 ∷ 10 ∷ []) rest, header_again BadCount n rest (omega arith), small) refl

negative_number_again : (nested : List ℕ → Read Tree) (n : ℕ) (rest : List ℕ) → n < 2 ^ 63 → by_mark nested (line 58 (45 ∷ decimal (suc n)) ++ rest) ≡ Ok (number (negsuc n), rest)
unfolding by_mark number_at
negative_number_again nested n rest lt =
    let small : ltb (2 ^ 63) (suc n) ≡ false = le-ltb _ _ (omega arith) in
    let less : suc n - 1 ≡ n = omega arith in
    rw (append_assoc (decimal (suc n)) (13 ∷ 10 ∷ []) rest, negative_header BadCount n rest lt, small, less) refl

mutual
  again : (depth : ℕ) (t : Tree) (rest : List ℕ) → Fits depth t → reply_at depth (encoding t ++ rest) ≡ Ok (t, rest)
  again depth (simple t) rest h = simple_again (array_at depth) t rest h.0 h.1
  again depth (error t) rest h = error_again (array_at depth) t rest h.0 h.1
  again depth (number (pos n)) rest h = positive_number_again (array_at depth) n rest h
  again depth (number (negsuc n)) rest h = negative_number_again (array_at depth) n rest h
  again depth (bulk t) rest h = bulk_again (array_at depth) t rest h
  again depth null rest h = null_again (array_at depth) rest
  again depth null_array rest h = null_array_again depth rest h
  again zero (array ts) rest h = absurd (omega arith)
  again (suc depth) (array ts) rest h = array_again depth ts rest h.1 (many_again depth ts rest (fits_down depth ts h.2))

  many_again : (depth : ℕ) (ts : Trees) (rest : List ℕ) → AllFit depth ts → many (reply_at depth) (length_of ts) (spellings ts ++ rest) ≡ Ok (ts, rest)
  many_again depth none rest h = refl
  many_again depth (more t ts) rest h = rw (append_assoc (encoding t) (spellings ts) rest, again depth t (spellings ts ++ rest) h.0, many_again depth ts rest h.1) refl

pub decoding_inverts_encoding : DecodingInvertsEncoding
decoding_inverts_encoding t rest h = again 8 t rest h
