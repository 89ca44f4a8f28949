-- What is read as a reply is its spelling.
use Rattle.std.proofs.Common.{◌≡◌, ℕ, zero, suc, ◌-◌, ◌≤◌, ◌<◌, ◌^◌, true, false, cond, eqb, ltb, List, [], ◌∷◌, ◌++◌, length, Ok, Err, refl, sym, ap, subst, ◌∙◌, append_assoc, arith, decimal, inl, inr, eqb-true}
use Rattle.std.proofs.lemmas.Bool.{ltb-false}
use Rattle.resp2_wire.specs.declared.fault.WireFault.TheVariants.{BadCount, BadLength, TooLarge, MissingCrLf, BadMark}
use Rattle.resp2_wire.specs.declared.fault.Stop.TheVariants.{Fault}
use Rattle.resp2_wire.specs.Reading.{◌>>=◌, Numeral, byte_at, header_at, text_at}
use Rattle.std.specs.Prelude.{pos, negsuc}
use Rattle.resp2_wire.specs.Tree.{Tree, Trees, simple, error, number, bulk, null, null_array, array, none, more}
use Rattle.resp2_wire.specs.Encoding.{length_of, line, encoding, spellings}
use Rattle.resp2_wire.specs.Replies.{Read, line_at, simple_at, error_at, number_at, number_from, bulk_at, bulk_of, many, array_of, array_at, by_mark}
use Rattle.resp2_wire.specs.ReplyLaws.{EncodingIsCanonical}
use Rattle.resp2_wire.specs.Limits.{Fits, AllFit}
use Rattle.resp2_wire.proofs.Skipping.{bind_ok}
use Rattle.resp2_wire.proofs.Headers.{ok_same, chosen, byte_spell, line_spell, text_spell, line_rest, header_grows, plus_spell, minus_spell, minus_one, crlf_tail}

-- ---- the parts after a mark

-- these bytes after the mark are the reply's, with those after it
abbrev ReplySpelt : ℕ → ℕ → List ℕ → Tree × List ℕ → Type 0
ReplySpelt mark depth bytes x = (mark ∷ bytes ≡ encoding x.0 ++ x.1) × Fits depth x.0

abbrev Spells : ℕ → ℕ → (List ℕ → Read Tree) → Type 0
Spells mark depth f = (bytes : List ℕ) (x : Tree × List ℕ) → f bytes ≡ Ok x → ReplySpelt mark depth bytes x

simple_spells : (depth : ℕ) → Spells 43 depth simple_at
unfolding simple_at
simple_spells depth bytes x e =
    let one = bind_ok (line_at 1024 bytes) (λ text. Ok (simple text.0, text.1)) x e in
    let h = line_spell 1024 bytes one.0 one.1 in
    subst (ReplySpelt 43 depth bytes) (ok_same (simple one.0.0, one.0.1) x one.2) (ap (λ (t : List ℕ). 43 ∷ t) h.0 ∙ sym (line_rest 43 one.0.0 one.0.1), (h.1, h.2))

error_spells : (depth : ℕ) → Spells 45 depth error_at
unfolding error_at
error_spells depth bytes x e =
    let one = bind_ok (line_at 1024 bytes) (λ text. Ok (error text.0, text.1)) x e in
    let h = line_spell 1024 bytes one.0 one.1 in
    subst (ReplySpelt 45 depth bytes) (ok_same (error one.0.0, one.0.1) x one.2) (ap (λ (t : List ℕ). 45 ∷ t) h.0 ∙ sym (line_rest 45 one.0.0 one.0.1), (h.1, h.2))

number_from_spells : (depth : ℕ) (bytes : List ℕ) (h : Numeral × List ℕ) → header_at BadCount bytes ≡ Ok h → (x : Tree × List ℕ) → number_from h.0 h.1 ≡ Ok x → ReplySpelt 58 depth bytes x
number_from_spells depth bytes h read x e =
    elim (chosen h.0.negative (cond (ltb (2 ^ 63) h.0.size) (Err (Fault BadCount)) (Ok (number (negsuc (h.0.size - 1)), h.1))) (cond (ltb (2 ^ 63 - 1) h.0.size) (Err (Fault BadCount)) (Ok (number (pos h.0.size), h.1))) (Ok x) e) [
      | inl k ↦ elim (chosen (ltb (2 ^ 63) h.0.size) (Err (Fault BadCount)) (Ok (number (negsuc (h.0.size - 1)), h.1)) (Ok x) k.1) [
        | inl j ↦ (let g = j.1 in absurd cc)
        | inr j ↦
            let some : 0 < h.0.size = header_grows BadCount bytes h read k.0 in
            let le : h.0.size ≤ 2 ^ 63 = ltb-false (2 ^ 63) h.0.size j.0 in
            subst (ReplySpelt 58 depth bytes) (ok_same (number (negsuc (h.0.size - 1)), h.1) x j.1) (minus_spell BadCount 58 (suc (h.0.size - 1)) bytes h (omega arith) read k.0 (omega arith), omega arith)
      ]
      | inr k ↦ elim (chosen (ltb (2 ^ 63 - 1) h.0.size) (Err (Fault BadCount)) (Ok (number (pos h.0.size), h.1)) (Ok x) k.1) [
        | inl j ↦ (let g = j.1 in absurd cc)
        | inr j ↦
            let le : h.0.size ≤ 2 ^ 63 - 1 = ltb-false (2 ^ 63 - 1) h.0.size j.0 in
            subst (ReplySpelt 58 depth bytes) (ok_same (number (pos h.0.size), h.1) x j.1) (plus_spell BadCount 58 bytes h (omega arith) read k.0, omega arith)
      ]
    ]

number_spells : (depth : ℕ) → Spells 58 depth number_at
unfolding number_at
number_spells depth bytes x e =
    let one = bind_ok (header_at BadCount bytes) (λ n. number_from n.0 n.1) x e in
    number_from_spells depth bytes one.0 one.1 x one.2

pub bulk_joined : (whole rest after t : List ℕ) (n : ℕ) → whole ≡ line 36 (decimal n) ++ rest → rest ≡ t ++ 13 ∷ 10 ∷ after → length t ≡ n → whole ≡ encoding (bulk t) ++ after
bulk_joined whole rest after t n head tail len =
    let one : whole ≡ line 36 (decimal (length t)) ++ rest = rw len head in
    let two : line 36 (decimal (length t)) ++ (t ++ 13 ∷ 10 ∷ after) ≡ encoding (bulk t) ++ after = simp append_assoc in
    one ∙ ap (λ (s : List ℕ). line 36 (decimal (length t)) ++ s) tail ∙ two

bulk_text_spells : (depth : ℕ) (bytes : List ℕ) (h : Numeral × List ℕ) → header_at BadLength bytes ≡ Ok h → h.0.negative ≡ false → h.0.size ≤ 1048576 → (x : Tree × List ℕ) → (text_at h.0.size h.1 >>= λ text. byte_at 13 MissingCrLf text.1 >>= λ cr. byte_at 10 MissingCrLf cr.1 >>= λ lf. Ok (bulk text.0, lf.1)) ≡ Ok x → ReplySpelt 36 depth bytes x
bulk_text_spells depth bytes h read sign le x e =
    let a = bind_ok (text_at h.0.size h.1) (λ text. byte_at 13 MissingCrLf text.1 >>= λ cr. byte_at 10 MissingCrLf cr.1 >>= λ lf. Ok (bulk text.0, lf.1)) x e in
    let b = bind_ok (byte_at 13 MissingCrLf a.0.1) (λ cr. byte_at 10 MissingCrLf cr.1 >>= λ lf. Ok (bulk a.0.0, lf.1)) x a.2 in
    let c = bind_ok (byte_at 10 MissingCrLf b.0.1) (λ lf. Ok (bulk a.0.0, lf.1)) x b.2 in
    let t = text_spell h.0.size h.1 a.0 a.1 in
    let cr = byte_spell 13 MissingCrLf a.0.1 b.0 b.1 in
    let lf = byte_spell 10 MissingCrLf b.0.1 c.0 c.1 in
    let tail : h.1 ≡ a.0.0 ++ 13 ∷ 10 ∷ c.0.1 = crlf_tail h.1 a.0.0 a.0.1 b.0.1 c.0.1 t.0 cr lf in
    subst (ReplySpelt 36 depth bytes) (ok_same (bulk a.0.0, c.0.1) x c.2) (bulk_joined (36 ∷ bytes) h.1 c.0.1 a.0.0 h.0.size (plus_spell BadLength 36 bytes h (omega arith) read sign) tail t.1, omega (arith, t.1))

bulk_of_spells : (depth : ℕ) (bytes : List ℕ) (h : Numeral × List ℕ) → header_at BadLength bytes ≡ Ok h → (x : Tree × List ℕ) → bulk_of h.0 h.1 ≡ Ok x → ReplySpelt 36 depth bytes x
bulk_of_spells depth bytes h read x e =
    elim (chosen h.0.negative (cond (eqb h.0.size 1) (Ok (null, h.1)) (Err (Fault BadLength))) (cond (ltb 1048576 h.0.size) (Err (Fault TooLarge)) (text_at h.0.size h.1 >>= λ text. byte_at 13 MissingCrLf text.1 >>= λ cr. byte_at 10 MissingCrLf cr.1 >>= λ lf. Ok (bulk text.0, lf.1))) (Ok x) e) [
      | inl k ↦ elim (chosen (eqb h.0.size 1) (Ok (null, h.1)) (Err (Fault BadLength)) (Ok x) k.1) [
        | inl j ↦ subst (ReplySpelt 36 depth bytes) (ok_same (null, h.1) x j.1) (minus_spell BadLength 36 1 bytes h (omega arith) read k.0 (eqb-true h.0.size 1 j.0) ∙ minus_one 36 h.1, tt)
        | inr j ↦ (let g = j.1 in absurd cc)
      ]
      | inr k ↦ elim (chosen (ltb 1048576 h.0.size) (Err (Fault TooLarge)) (text_at h.0.size h.1 >>= λ text. byte_at 13 MissingCrLf text.1 >>= λ cr. byte_at 10 MissingCrLf cr.1 >>= λ lf. Ok (bulk text.0, lf.1)) (Ok x) k.1) [
        | inl j ↦ (let g = j.1 in absurd cc)
        | inr j ↦ bulk_text_spells depth bytes h read k.0 (ltb-false 1048576 h.0.size j.0) x j.1
      ]
    ]

bulk_spells : (depth : ℕ) → Spells 36 depth bulk_at
unfolding bulk_at
bulk_spells depth bytes x e =
    let one = bind_ok (header_at BadLength bytes) (λ n. bulk_of n.0 n.1) x e in
    bulk_of_spells depth bytes one.0 one.1 x one.2

-- ---- arrays, and the walk over depths

abbrev Whole : ℕ → (List ℕ → Read Tree) → Type 0
Whole depth one = (bytes : List ℕ) (x : Tree × List ℕ) → one bytes ≡ Ok x → (bytes ≡ encoding x.0 ++ x.1) × Fits depth x.0

many_spell : (depth : ℕ) (one : List ℕ → Read Tree) → ((bytes : List ℕ) (x : Tree × List ℕ) → one bytes ≡ Ok x → (bytes ≡ encoding x.0 ++ x.1) × Fits depth x.0) → (n : ℕ) (bytes : List ℕ) (x : Trees × List ℕ) → many one n bytes ≡ Ok x → (bytes ≡ spellings x.0 ++ x.1) × AllFit depth x.0 × (length_of x.0 ≡ n)
many_spell depth one ih zero bytes x e = subst (λ (y : Trees × List ℕ). (bytes ≡ spellings y.0 ++ y.1) × AllFit depth y.0 × (length_of y.0 ≡ 0)) (ok_same (none, bytes) x e) (refl, tt, refl)
many_spell depth one ih (suc n) bytes x e =
    let a = bind_ok (one bytes) (λ first. many one n first.1 >>= λ others. Ok (more first.0 others.0, others.1)) x e in
    let b = bind_ok (many one n a.0.1) (λ others. Ok (more a.0.0 others.0, others.1)) x a.2 in
    let p = ih bytes a.0 a.1 in
    let q = many_spell depth one ih n a.0.1 b.0 b.1 in
    subst (λ (y : Trees × List ℕ). (bytes ≡ spellings y.0 ++ y.1) × AllFit depth y.0 × (length_of y.0 ≡ suc n)) (ok_same (more a.0.0 b.0.0, b.0.1) x b.2)
    (p.0 ∙ ap (λ (t : List ℕ). encoding a.0.0 ++ t) q.0 ∙ sym (append_assoc (encoding a.0.0) (spellings b.0.0) b.0.1), (p.1, q.1), ap suc q.2)

pub array_joined : (whole rest after : List ℕ) (ts : Trees) (n : ℕ) → whole ≡ line 42 (decimal n) ++ rest → rest ≡ spellings ts ++ after → length_of ts ≡ n → whole ≡ encoding (array ts) ++ after
array_joined whole rest after ts n head tail len =
    let one : whole ≡ line 42 (decimal (length_of ts)) ++ rest = rw len head in
    one ∙ ap (λ (s : List ℕ). line 42 (decimal (length_of ts)) ++ s) tail ∙ sym (append_assoc (line 42 (decimal (length_of ts))) (spellings ts) after)

fits_up : (depth : ℕ) (ts : Trees) → AllFit depth ts → AllFit (suc depth - 1) ts
fits_up depth ts h = let e : depth ≡ suc depth - 1 = omega arith in subst (λ (d : ℕ). AllFit d ts) e h

elements_spell : (depth : ℕ) (one : List ℕ → Read Tree) → Whole depth one → (bytes : List ℕ) (h : Numeral × List ℕ) → header_at BadCount bytes ≡ Ok h → h.0.negative ≡ false → h.0.size ≤ 2097152 → (x : Tree × List ℕ) → (many one h.0.size h.1 >>= λ y. Ok (array y.0, y.1)) ≡ Ok x → ReplySpelt 42 (suc depth) bytes x
elements_spell depth one each bytes h read sign le x e =
    let a = bind_ok (many one h.0.size h.1) (λ y. Ok (array y.0, y.1)) x e in
    let m = many_spell depth one each h.0.size h.1 a.0 a.1 in
    subst (ReplySpelt 42 (suc depth) bytes) (ok_same (array a.0.0, a.0.1) x a.2) (array_joined (42 ∷ bytes) h.1 a.0.1 a.0.0 h.0.size (plus_spell BadCount 42 bytes h (omega arith) read sign) m.0 m.2, (omega arith, omega (arith, m.2), fits_up depth a.0.0 m.1))

array_of_spells : (depth : ℕ) (one : List ℕ → Read Tree) → Whole depth one → (bytes : List ℕ) (h : Numeral × List ℕ) → header_at BadCount bytes ≡ Ok h → (x : Tree × List ℕ) → array_of one h.0 h.1 ≡ Ok x → ReplySpelt 42 (suc depth) bytes x
array_of_spells depth one each bytes h read x e =
    elim (chosen h.0.negative (cond (eqb h.0.size 1) (Ok (null_array, h.1)) (Err (Fault BadCount))) (cond (ltb 2097152 h.0.size) (Err (Fault TooLarge)) (many one h.0.size h.1 >>= λ y. Ok (array y.0, y.1))) (Ok x) e) [
      | inl k ↦ elim (chosen (eqb h.0.size 1) (Ok (null_array, h.1)) (Err (Fault BadCount)) (Ok x) k.1) [
        | inl j ↦ subst (ReplySpelt 42 (suc depth) bytes) (ok_same (null_array, h.1) x j.1) (minus_spell BadCount 42 1 bytes h (omega arith) read k.0 (eqb-true h.0.size 1 j.0) ∙ minus_one 42 h.1, omega arith)
        | inr j ↦ (let g = j.1 in absurd cc)
      ]
      | inr k ↦ elim (chosen (ltb 2097152 h.0.size) (Err (Fault TooLarge)) (many one h.0.size h.1 >>= λ y. Ok (array y.0, y.1)) (Ok x) k.1) [
        | inl j ↦ (let g = j.1 in absurd cc)
        | inr j ↦ elements_spell depth one each bytes h read k.0 (ltb-false 2097152 h.0.size j.0) x j.1
      ]
    ]

at_mark : (depth b mark : ℕ) (bytes : List ℕ) (x : Tree × List ℕ) → eqb b mark ≡ true → ReplySpelt mark depth bytes x → ReplySpelt b depth bytes x
at_mark depth b mark bytes x is h = subst (λ (m : ℕ). ReplySpelt m depth bytes x) (sym (eqb-true b mark is)) h

mark_spells : (depth : ℕ) (nested : List ℕ → Read Tree) → Spells 42 depth nested → Whole depth (by_mark nested)
unfolding by_mark
mark_spells depth nested arrays [] x e = absurd cc
mark_spells depth nested arrays (b ∷ bytes) x e =
    elim (chosen (eqb b 43) (simple_at bytes) (cond (eqb b 45) (error_at bytes) (cond (eqb b 58) (number_at bytes) (cond (eqb b 36) (bulk_at bytes) (cond (eqb b 42) (nested bytes) (Err (Fault BadMark)))))) (Ok x) e) [
      | inl h ↦ at_mark depth b 43 bytes x h.0 (simple_spells depth bytes x h.1)
      | inr h ↦ elim (chosen (eqb b 45) (error_at bytes) (cond (eqb b 58) (number_at bytes) (cond (eqb b 36) (bulk_at bytes) (cond (eqb b 42) (nested bytes) (Err (Fault BadMark))))) (Ok x) h.1) [
        | inl i ↦ at_mark depth b 45 bytes x i.0 (error_spells depth bytes x i.1)
        | inr i ↦ elim (chosen (eqb b 58) (number_at bytes) (cond (eqb b 36) (bulk_at bytes) (cond (eqb b 42) (nested bytes) (Err (Fault BadMark)))) (Ok x) i.1) [
          | inl j ↦ at_mark depth b 58 bytes x j.0 (number_spells depth bytes x j.1)
          | inr j ↦ elim (chosen (eqb b 36) (bulk_at bytes) (cond (eqb b 42) (nested bytes) (Err (Fault BadMark))) (Ok x) j.1) [
            | inl k ↦ at_mark depth b 36 bytes x k.0 (bulk_spells depth bytes x k.1)
            | inr k ↦ elim (chosen (eqb b 42) (nested bytes) (Err (Fault BadMark)) (Ok x) k.1) [
              | inl l ↦ at_mark depth b 42 bytes x l.0 (arrays bytes x l.1)
              | inr l ↦ (let g = l.1 in absurd cc)
            ]
          ]
        ]
      ]
    ]

array_spells : (depth : ℕ) → Spells 42 depth (array_at depth)
unfolding array_at
array_spells zero bytes x e = absurd cc
array_spells (suc depth) bytes x e =
    let one = bind_ok (header_at BadCount bytes) (λ n. array_of (by_mark (array_at depth)) n.0 n.1) x e in
    array_of_spells depth (by_mark (array_at depth)) (mark_spells depth (array_at depth) (array_spells depth)) bytes one.0 one.1 x one.2

pub encoding_is_canonical : EncodingIsCanonical
encoding_is_canonical bytes rest t e = mark_spells 8 (array_at 8) (array_spells 8) bytes (t, rest) e
