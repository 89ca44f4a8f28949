-- A nonempty request is read where its words stand as an array of bulk strings, and nowhere else.
use Rattle.std.proofs.Common.{◌≡◌, ◌≢◌, ℕ, zero, suc, ◌≤◌, ◌<◌, false, cond, ltb, List, [], ◌∷◌, ◌++◌, length, Ok, Err, refl, sym, ap, subst, ◌∙◌, append_assoc, arith, decimal, inl, inr}
use Rattle.std.proofs.lemmas.List.{length-append, take_at, drop_at}
use Rattle.std.proofs.lemmas.Bool.{le-ltb, ltb-false}
use Rattle.resp2_wire.specs.declared.fault.WireFault.TheVariants.{NotArray, BadCount, NotBulk, BadLength, TooLarge, MissingCrLf}
use Rattle.resp2_wire.specs.declared.fault.Stop.TheVariants.{Fault}
use Rattle.resp2_wire.specs.Reading.{◌>>=◌, byte_at, header_at, at_most, count_at, length_at, text_at, word_at, words_at, request_at}
use Rattle.resp2_wire.specs.Stream.{Words}
use Rattle.resp2_wire.specs.Tree.{bulk, array}
use Rattle.resp2_wire.specs.Encoding.{length_of, line, encoding, spellings}
use Rattle.resp2_wire.specs.RequestLaws.{bulks, AllShort, RequestDecodingInvertsEncoding, RequestEncodingIsCanonical}
use Rattle.resp2_wire.proofs.Skipping.{bind_ok}
use Rattle.resp2_wire.proofs.Again.{header_again, line-rest}
use Rattle.resp2_wire.proofs.Headers.{ok_same, chosen, byte_spell, text_spell, plus_spell, crlf_tail}
use Rattle.resp2_wire.proofs.Spelt.{bulk_joined, array_joined}

-- ---- what is written is read

word_again : (w rest : List ℕ) → length w ≤ 1048576 → word_at (encoding (bulk w) ++ rest) ≡ Ok (w, rest)
unfolding word_at length_at
word_again w rest le =
    let small : ltb 1048576 (length w) ≡ false = le-ltb _ _ le in
    let long : ltb (length (w ++ 13 ∷ 10 ∷ rest)) (length w) ≡ false = le-ltb _ _ (omega (arith, length-append w (13 ∷ 10 ∷ rest))) in
    let bytes : encoding (bulk w) ++ rest ≡ 36 ∷ (decimal (length w) ++ 13 ∷ 10 ∷ (w ++ 13 ∷ 10 ∷ rest)) = simp append_assoc in
    ap word_at bytes ∙ rw (header_again BadLength (length w) (w ++ 13 ∷ 10 ∷ rest) (omega arith), small, long, take_at w (13 ∷ 10 ∷ rest) (length w) refl, drop_at w (13 ∷ 10 ∷ rest) (length w) refl) refl

words_again : (ws : Words) (rest : List ℕ) → AllShort ws → words_at (length ws) (spellings (bulks ws) ++ rest) ≡ Ok (ws, rest)
unfolding words_at
words_again [] rest h = refl
words_again (w ∷ ws) rest h = rw (append_assoc (encoding (bulk w)) (spellings (bulks ws)) rest, word_again w (spellings (bulks ws) ++ rest) h.0, words_again ws rest h.1) refl

length_of-bulks : (ws : Words) → length_of (bulks ws) ≡ length ws
length_of-bulks [] = refl
length_of-bulks (w ∷ ws) = ap suc (length_of-bulks ws)

pub request_decoding_inverts_encoding : RequestDecodingInvertsEncoding
unfolding request_at count_at
request_decoding_inverts_encoding ws rest h =
    let small : ltb 1024 (length ws) ≡ false = le-ltb _ _ h.0 in
    let bytes : encoding (array (bulks ws)) ++ rest ≡ 42 ∷ (decimal (length ws) ++ 13 ∷ 10 ∷ (spellings (bulks ws) ++ rest)) = rw (length_of-bulks ws) (append_assoc (line 42 (decimal (length ws))) (spellings (bulks ws)) rest ∙ line-rest 42 (decimal (length ws)) (spellings (bulks ws) ++ rest)) in
    ap request_at bytes ∙ rw (header_again BadCount (length ws) (spellings (bulks ws) ++ rest) (omega (arith, h.0)), small, words_again ws rest h.1) refl

-- ---- nothing else is read

length_spell : (bytes : List ℕ) (x : ℕ × List ℕ) → length_at bytes ≡ Ok x → (bytes ≡ line 36 (decimal x.0) ++ x.1) × (x.0 ≤ 1048576)
unfolding length_at
length_spell bytes x e =
    let a = bind_ok (byte_at 36 NotBulk bytes) (λ mark. header_at BadLength mark.1 >>= λ n. cond n.0.negative (Err (Fault BadLength)) (at_most 1048576 n.0 n.1)) x e in
    let b = bind_ok (header_at BadLength a.0.1) (λ n. cond n.0.negative (Err (Fault BadLength)) (at_most 1048576 n.0 n.1)) x a.2 in
    elim (chosen b.0.0.negative (Err (Fault BadLength)) (at_most 1048576 b.0.0 b.0.1) (Ok x) b.2) [
      | inl k ↦ (let g = k.1 in absurd cc)
      | inr k ↦ elim (chosen (ltb 1048576 b.0.0.size) (Err (Fault TooLarge)) (Ok (b.0.0.size, b.0.1)) (Ok x) k.1) [
        | inl j ↦ (let g = j.1 in absurd cc)
        | inr j ↦
            let le : b.0.0.size ≤ 1048576 = ltb-false 1048576 b.0.0.size j.0 in
            subst (λ (y : ℕ × List ℕ). (bytes ≡ line 36 (decimal y.0) ++ y.1) × (y.0 ≤ 1048576)) (ok_same (b.0.0.size, b.0.1) x j.1) (byte_spell 36 NotBulk bytes a.0 a.1 ∙ plus_spell BadLength 36 a.0.1 b.0 (omega arith) b.1 k.0, le)
      ]
    ]

-- a count above 0 stands there as it is
count_spell : (bytes : List ℕ) (x : ℕ × List ℕ) → count_at bytes ≡ Ok x → 0 < x.0 → (bytes ≡ line 42 (decimal x.0) ++ x.1) × (x.0 ≤ 1024)
unfolding count_at
count_spell bytes x e some =
    let a = bind_ok (byte_at 42 NotArray bytes) (λ mark. header_at BadCount mark.1 >>= λ n. cond n.0.negative (Ok (0, n.1)) (at_most 1024 n.0 n.1)) x e in
    let b = bind_ok (header_at BadCount a.0.1) (λ n. cond n.0.negative (Ok (0, n.1)) (at_most 1024 n.0 n.1)) x a.2 in
    elim (chosen b.0.0.negative (Ok (0, b.0.1)) (at_most 1024 b.0.0 b.0.1) (Ok x) b.2) [
      | inl k ↦ (let none : 0 ≡ x.0 = ap (λ (y : ℕ × List ℕ). y.0) (ok_same (0, b.0.1) x k.1) in absurd (omega arith))
      | inr k ↦ elim (chosen (ltb 1024 b.0.0.size) (Err (Fault TooLarge)) (Ok (b.0.0.size, b.0.1)) (Ok x) k.1) [
        | inl j ↦ (let g = j.1 in absurd cc)
        | inr j ↦
            let le : b.0.0.size ≤ 1024 = ltb-false 1024 b.0.0.size j.0 in
            subst (λ (y : ℕ × List ℕ). (bytes ≡ line 42 (decimal y.0) ++ y.1) × (y.0 ≤ 1024)) (ok_same (b.0.0.size, b.0.1) x j.1) (byte_spell 42 NotArray bytes a.0 a.1 ∙ plus_spell BadCount 42 a.0.1 b.0 (omega arith) b.1 k.0, le)
      ]
    ]

word_spell : (bytes : List ℕ) (x : List ℕ × List ℕ) → word_at bytes ≡ Ok x → (bytes ≡ encoding (bulk x.0) ++ x.1) × (length x.0 ≤ 1048576)
unfolding word_at
word_spell bytes x e =
    let n = bind_ok (length_at bytes) (λ n. text_at n.0 n.1 >>= λ text. byte_at 13 MissingCrLf text.1 >>= λ cr. byte_at 10 MissingCrLf cr.1 >>= λ lf. Ok (text.0, lf.1)) x e in
    let a = bind_ok (text_at n.0.0 n.0.1) (λ text. byte_at 13 MissingCrLf text.1 >>= λ cr. byte_at 10 MissingCrLf cr.1 >>= λ lf. Ok (text.0, lf.1)) x n.2 in
    let b = bind_ok (byte_at 13 MissingCrLf a.0.1) (λ cr. byte_at 10 MissingCrLf cr.1 >>= λ lf. Ok (a.0.0, lf.1)) x a.2 in
    let c = bind_ok (byte_at 10 MissingCrLf b.0.1) (λ lf. Ok (a.0.0, lf.1)) x b.2 in
    let h = length_spell bytes n.0 n.1 in
    let t = text_spell n.0.0 n.0.1 a.0 a.1 in
    let cr = byte_spell 13 MissingCrLf a.0.1 b.0 b.1 in
    let lf = byte_spell 10 MissingCrLf b.0.1 c.0 c.1 in
    let tail : n.0.1 ≡ a.0.0 ++ 13 ∷ 10 ∷ c.0.1 = crlf_tail n.0.1 a.0.0 a.0.1 b.0.1 c.0.1 t.0 cr lf in
    subst (λ (y : List ℕ × List ℕ). (bytes ≡ encoding (bulk y.0) ++ y.1) × (length y.0 ≤ 1048576)) (ok_same (a.0.0, c.0.1) x c.2) (bulk_joined bytes n.0.1 c.0.1 a.0.0 n.0.0 h.0 tail t.1, omega (arith, h.1, t.1))

words_spell : (n : ℕ) (bytes : List ℕ) (x : Words × List ℕ) → words_at n bytes ≡ Ok x → (bytes ≡ spellings (bulks x.0) ++ x.1) × AllShort x.0 × (length x.0 ≡ n)
unfolding words_at
words_spell zero bytes x e = subst (λ (y : Words × List ℕ). (bytes ≡ spellings (bulks y.0) ++ y.1) × AllShort y.0 × (length y.0 ≡ 0)) (ok_same ([], bytes) x e) (refl, tt, refl)
words_spell (suc n) bytes x e =
    let a = bind_ok (word_at bytes) (λ first. words_at n first.1 >>= λ others. Ok (first.0 ∷ others.0, others.1)) x e in
    let b = bind_ok (words_at n a.0.1) (λ others. Ok (a.0.0 ∷ others.0, others.1)) x a.2 in
    let p = word_spell bytes a.0 a.1 in
    let q = words_spell n a.0.1 b.0 b.1 in
    subst (λ (y : Words × List ℕ). (bytes ≡ spellings (bulks y.0) ++ y.1) × AllShort y.0 × (length y.0 ≡ suc n)) (ok_same (a.0.0 ∷ b.0.0, b.0.1) x b.2)
    (p.0 ∙ ap (λ (t : List ℕ). encoding (bulk a.0.0) ++ t) q.0 ∙ sym (append_assoc (encoding (bulk a.0.0)) (spellings (bulks b.0.0)) b.0.1), (p.1, q.1), ap suc q.2)

some_words : (ws : Words) → ws ≢ [] → 0 < length ws
some_words [] h = absurd (h refl)
some_words (w ∷ ws) h = omega arith

pub request_encoding_is_canonical : RequestEncodingIsCanonical
unfolding request_at
request_encoding_is_canonical bytes rest ws e some =
    let a = bind_ok (count_at bytes) (λ n. words_at n.0 n.1) (ws, rest) e in
    let w = words_spell a.0.0 a.0.1 (ws, rest) a.2 in
    let c = count_spell bytes a.0 a.1 (omega (arith, some_words ws some, w.2)) in
    (array_joined bytes a.0.1 rest (bulks ws) a.0.0 c.0 w.0 (length_of-bulks ws ∙ w.2), (omega (arith, c.1, w.2), w.1))
