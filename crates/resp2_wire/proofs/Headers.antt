-- What stands where a byte, a line, a header or a text of some length was read.
use Rattle.std.proofs.Common.{◌≡◌, ◌≢◌, ℕ, zero, suc, ◌-◌, ◌≤◌, ◌<◌, ◌^◌, Bool, true, false, cond, eqb, ltb, leb, ◌&&◌, List, [], ◌∷◌, ◌++◌, length, take, drop, Option, Some, None, Result, Ok, Err, refl, sym, ap, subst, ◌∙◌, append_assoc, arith, decimal, inl, inr, ◌⊎◌, eqb-true}
use Rattle.std.proofs.lemmas.List.{nil_from_length, take-append-drop, length-take-le}
use Rattle.std.proofs.lemmas.Bool.{ltb-false, eq-eqb}
use Rattle.std.proofs.lemmas.Fmt.{decimal_digit}
use Rattle.std.proofs.lemmas.Bool.Decides.{nat_tests}
use Rattle.resp2_wire.specs.declared.fault.WireFault.{WireFault}
use Rattle.resp2_wire.specs.declared.fault.WireFault.TheVariants.{TooLarge, MissingCrLf}
use Rattle.resp2_wire.specs.declared.fault.Stop.{Stop}
use Rattle.resp2_wire.specs.declared.fault.Stop.TheVariants.{Unfinished, Fault}
use Rattle.resp2_wire.specs.Reading.{◌>>=◌, Numeral, byte_at, before_cr, numeral_of, or_fault, header_at, text_at}
use Rattle.resp2_wire.specs.Encoding.{line}
use Rattle.resp2_wire.specs.Replies.{line_at}
use Rattle.resp2_wire.specs.Limits.{NoLineEnd}
use Rattle.resp2_wire.proofs.Skipping.{bind_ok}
use Rattle.byte_texts.specs.Decimals.{numeral_text}
use Rattle.byte_texts.proofs.Numerals.{numeral_grows, numeral_spell}

abbrev pub done : {A : Type 0} → A → Result A Stop
done x = Ok x

pub ok_same : {A : Type 0} (x y : A) → done x ≡ done y → x ≡ y
ok_same x y e = cc

-- which way a test went
pub chosen : {A : Type 0} (b : Bool) (x y z : A) → cond b x y ≡ z → ((b ≡ true) × (x ≡ z)) ⊎ ((b ≡ false) × (y ≡ z))
chosen true x y z e = inl (refl, e)
chosen false x y z e = inr (refl, e)

pub byte_spell : (b : ℕ) (f : WireFault) (bytes : List ℕ) (x : ℕ × List ℕ) → byte_at b f bytes ≡ Ok x → bytes ≡ b ∷ x.1
byte_spell b f [] x e = absurd cc
byte_spell b f (c ∷ bytes) x e =
    elim (chosen (eqb c b) (Ok (b, bytes)) (Err (Fault f)) (Ok x) e) [
      | inl h ↦ let same : c ≡ b = eqb-true c b h.0 in rw (same, sym (ap (λ (p : ℕ × List ℕ). p.1) (ok_same (b, bytes) x h.1))) refl
      | inr h ↦ let g = h.1 in absurd cc
    ]

cr_spell : (f : WireFault) (n : ℕ) (bytes : List ℕ) (x : List ℕ × List ℕ) → before_cr f n bytes ≡ Ok x → bytes ≡ x.0 ++ 13 ∷ x.1
unfolding before_cr
cr_spell f zero bytes x e = absurd cc
cr_spell f (suc n) [] x e = absurd cc
cr_spell f (suc n) (b ∷ bytes) x e = go (cr_spell f n bytes) (chosen (eqb b 13) (Ok ([], bytes)) (before_cr f n bytes >>= λ y. Ok (b ∷ y.0, y.1)) (Ok x) e)
  where
    go : ((y : List ℕ × List ℕ) → before_cr f n bytes ≡ Ok y → bytes ≡ y.0 ++ 13 ∷ y.1) → (((eqb b 13 ≡ true) × (done ([], bytes) ≡ Ok x)) ⊎ ((eqb b 13 ≡ false) × ((before_cr f n bytes >>= λ y. Ok (b ∷ y.0, y.1)) ≡ Ok x))) → b ∷ bytes ≡ x.0 ++ 13 ∷ x.1
    go ih (inl h) = let same : b ≡ 13 = eqb-true b 13 h.0 in let p = ok_same ([], bytes) x h.1 in subst (λ (z : List ℕ × List ℕ). b ∷ bytes ≡ z.0 ++ 13 ∷ z.1) p (rw same refl)
    go ih (inr h) =
        let y = bind_ok (before_cr f n bytes) (λ y. Ok (b ∷ y.0, y.1)) x h.1 in
        let p = ok_same (b ∷ y.0.0, y.0.1) x y.2 in
        subst (λ (z : List ℕ × List ℕ). b ∷ bytes ≡ z.0 ++ 13 ∷ z.1) p (ap (λ (t : List ℕ). b ∷ t) (ih y.0 y.1))

pub header_parts : (f : WireFault) (bytes : List ℕ) (x : Numeral × List ℕ) → header_at f bytes ≡ Ok x → (text : List ℕ) × (bytes ≡ text ++ 13 ∷ 10 ∷ x.1) × (numeral_of text ≡ Some x.0)
unfolding header_at
header_parts f bytes x e =
    let one = bind_ok (before_cr f 21 bytes) (λ text. byte_at 10 MissingCrLf text.1 >>= λ lf. or_fault f lf.1 (numeral_of text.0)) x e in
    let two = bind_ok (byte_at 10 MissingCrLf one.0.1) (λ lf. or_fault f lf.1 (numeral_of one.0.0)) x one.2 in
    let lf = byte_spell 10 MissingCrLf one.0.1 two.0 two.1 in
    let three = was_some f two.0.1 (numeral_of one.0.0) x two.2 in
    (one.0.0, cr_spell f 21 bytes one.0 one.1 ∙ ap (λ (t : List ℕ). one.0.0 ++ 13 ∷ t) (lf ∙ ap (λ (t : List ℕ). 10 ∷ t) three.1), three.0)
  where
    was_some : (f : WireFault) (rest : List ℕ) (o : Option Numeral) (x : Numeral × List ℕ) → or_fault f rest o ≡ Ok x → (o ≡ Some x.0) × (rest ≡ x.1)
    was_some f rest None x e = absurd cc
    was_some f rest (Some n) x e = let p = ok_same (n, rest) x e in (ap (λ (q : Numeral × List ℕ). Some q.0) p, ap (λ (q : Numeral × List ℕ). q.1) p)

header_spell : (f : WireFault) (bytes : List ℕ) (x : Numeral × List ℕ) → x.0.size < 10 ^ 64 → header_at f bytes ≡ Ok x → bytes ≡ numeral_text x.0 ++ 13 ∷ 10 ∷ x.1
header_spell f bytes x lt e =
    let h = header_parts f bytes x e in
    h.1 ∙ ap (λ (t : List ℕ). t ++ 13 ∷ 10 ∷ x.1) (numeral_spell h.0 x.0 lt h.2)

-- ---- texts

no_byte : (b k : ℕ) → eqb b k ≡ false → b ≢ k
no_byte b k e same = let f : eqb b k ≡ true = eq-eqb b k same in absurd cc

abbrev pub LineSpelt : ℕ → List ℕ → List ℕ × List ℕ → Type 0
LineSpelt n bytes x = (bytes ≡ x.0 ++ 13 ∷ 10 ∷ x.1) × NoLineEnd x.0 × (length x.0 ≤ n)

line_end_spell : (n b : ℕ) (bytes : List ℕ) (x : List ℕ × List ℕ) → eqb b 13 ≡ true → (byte_at 10 MissingCrLf bytes >>= λ y. Ok ([], y.1)) ≡ Ok x → LineSpelt n (b ∷ bytes) x
line_end_spell n b bytes x is e =
    let y = bind_ok (byte_at 10 MissingCrLf bytes) (λ y. Ok ([], y.1)) x e in
    let same : b ≡ 13 = eqb-true b 13 is in
    subst (LineSpelt n (b ∷ bytes)) (ok_same ([], y.0.1) x y.2) (ap (λ (c : ℕ). c ∷ bytes) same ∙ ap (λ (t : List ℕ). 13 ∷ t) (byte_spell 10 MissingCrLf bytes y.0 y.1), tt, omega arith)

pub line_spell : (n : ℕ) (bytes : List ℕ) (x : List ℕ × List ℕ) → line_at n bytes ≡ Ok x → LineSpelt n bytes x
unfolding line_at
line_spell zero [] x e = absurd cc
line_spell (suc n) [] x e = absurd cc
line_spell zero (b ∷ bytes) x e =
    elim (chosen (eqb b 13) (byte_at 10 MissingCrLf bytes >>= λ y. Ok ([], y.1)) (cond (eqb b 10) (Err (Fault MissingCrLf)) (Err (Fault TooLarge))) (Ok x) e) [
      | inl h ↦ line_end_spell zero b bytes x h.0 h.1
      | inr h ↦ elim (chosen (eqb b 10) (Err (Fault MissingCrLf)) (Err (Fault TooLarge)) (Ok x) h.1) [ inl k ↦ (let g = k.1 in absurd cc) | inr k ↦ (let g = k.1 in absurd cc) ]
    ]
line_spell (suc n) (b ∷ bytes) x e = go (line_spell n bytes) (chosen (eqb b 13) (byte_at 10 MissingCrLf bytes >>= λ y. Ok ([], y.1)) (cond (eqb b 10) (Err (Fault MissingCrLf)) (line_at n bytes >>= λ y. Ok (b ∷ y.0, y.1))) (Ok x) e)
  where
    more_line : ((y : List ℕ × List ℕ) → line_at n bytes ≡ Ok y → LineSpelt n bytes y) → eqb b 13 ≡ false → eqb b 10 ≡ false → (line_at n bytes >>= λ y. Ok (b ∷ y.0, y.1)) ≡ Ok x → LineSpelt (suc n) (b ∷ bytes) x
    more_line ih cr lf f =
        let y = bind_ok (line_at n bytes) (λ y. Ok (b ∷ y.0, y.1)) x f in
        let h = ih y.0 y.1 in
        subst (LineSpelt (suc n) (b ∷ bytes)) (ok_same (b ∷ y.0.0, y.0.1) x y.2) (ap (λ (t : List ℕ). b ∷ t) h.0, (no_byte b 13 cr, no_byte b 10 lf, h.1), omega (arith, h.2))

    go : ((y : List ℕ × List ℕ) → line_at n bytes ≡ Ok y → LineSpelt n bytes y) → (((eqb b 13 ≡ true) × ((byte_at 10 MissingCrLf bytes >>= λ y. Ok ([], y.1)) ≡ Ok x)) ⊎ ((eqb b 13 ≡ false) × (cond (eqb b 10) (Err (Fault MissingCrLf)) (line_at n bytes >>= λ y. Ok (b ∷ y.0, y.1)) ≡ Ok x))) → LineSpelt (suc n) (b ∷ bytes) x
    go ih (inl h) = line_end_spell (suc n) b bytes x h.0 h.1
    go ih (inr h) = elim (chosen (eqb b 10) (Err (Fault MissingCrLf)) (line_at n bytes >>= λ y. Ok (b ∷ y.0, y.1)) (Ok x) h.1) [ inl k ↦ (let g = k.1 in absurd cc) | inr k ↦ more_line ih h.0 k.0 k.1 ]

pub text_spell : (n : ℕ) (bytes : List ℕ) (x : List ℕ × List ℕ) → text_at n bytes ≡ Ok x → (bytes ≡ x.0 ++ x.1) × (length x.0 ≡ n)
text_spell n bytes x e =
    elim (chosen (ltb (length bytes) n) (Err Unfinished) (Ok (take n bytes, drop n bytes)) (Ok x) e) [
      | inl h ↦ (let g = h.1 in absurd cc)
      | inr h ↦ subst (λ (y : List ℕ × List ℕ). (bytes ≡ y.0 ++ y.1) × (length y.0 ≡ n)) (ok_same (take n bytes, drop n bytes) x h.1) (sym (take-append-drop n bytes), length-take-le n bytes (ltb-false (length bytes) n h.0))
    ]

-- ---- headers after a mark

pub line_rest : (mark : ℕ) (text rest : List ℕ) → line mark text ++ rest ≡ mark ∷ (text ++ 13 ∷ 10 ∷ rest)
line_rest mark text rest = ap (λ (t : List ℕ). mark ∷ t) (append_assoc text (13 ∷ 10 ∷ []) rest)

pub header_grows : (f : WireFault) (bytes : List ℕ) (x : Numeral × List ℕ) → header_at f bytes ≡ Ok x → x.0.negative ≡ true → 0 < x.0.size
header_grows f bytes x e neg = let h = header_parts f bytes x e in numeral_grows h.0 x.0 h.2 neg

pub plus_spell : (f : WireFault) (mark : ℕ) (bytes : List ℕ) (x : Numeral × List ℕ) → x.0.size < 10 ^ 64 → header_at f bytes ≡ Ok x → x.0.negative ≡ false → mark ∷ bytes ≡ line mark (decimal x.0.size) ++ x.1
plus_spell f mark bytes x lt e sign =
    let text : numeral_text x.0 ≡ decimal x.0.size = rw sign refl in
    ap (λ (t : List ℕ). mark ∷ t) (rw text at (header_spell f bytes x lt e)) ∙ sym (line_rest mark (decimal x.0.size) x.1)

pub minus_spell : (f : WireFault) (mark m : ℕ) (bytes : List ℕ) (x : Numeral × List ℕ) → m < 10 ^ 64 → header_at f bytes ≡ Ok x → x.0.negative ≡ true → x.0.size ≡ m → mark ∷ bytes ≡ line mark (45 ∷ decimal m) ++ x.1
minus_spell f mark m bytes x lt e sign size =
    let text : numeral_text x.0 ≡ 45 ∷ decimal m = rw (sign, size) refl in
    ap (λ (t : List ℕ). mark ∷ t) (rw text at (header_spell f bytes x (omega arith) e)) ∙ sym (line_rest mark (45 ∷ decimal m) x.1)

pub minus_one : (mark : ℕ) (rest : List ℕ) → line mark (45 ∷ decimal 1) ++ rest ≡ line mark (45 ∷ 49 ∷ []) ++ rest
minus_one mark rest = ap (λ (t : List ℕ). line mark (45 ∷ t) ++ rest) (decimal_digit 1 (omega arith))

-- a text, CR and LF, read one after the other
pub crlf_tail : (bytes text at mid rest : List ℕ) → bytes ≡ text ++ at → at ≡ 13 ∷ mid → mid ≡ 10 ∷ rest → bytes ≡ text ++ 13 ∷ 10 ∷ rest
crlf_tail bytes text at mid rest a b c = a ∙ ap (λ (s : List ℕ). text ++ s) (b ∙ ap (λ (s : List ℕ). 13 ∷ s) c)
