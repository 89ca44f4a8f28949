-- A text spells a number exactly where it is what is written of that number.
use Rattle.std.proofs.Common.{◌≡◌, ◌≢◌, ℕ, suc, ◌-◌, ◌≤◌, ◌<◌, ◌^◌, Bool, true, false, cond, List, ◌∷◌, length, Option}
use Rattle.std.proofs.Common.{None, Some, ℤ, pos, negsuc, refl, sym, ap, ◌∙◌, FitsSigned, decimal, arith, nat_le, nat_lt}
use Rattle.std.specs.Prelude.{IfNone}
use Rattle.std.proofs.lemmas.Bool.{le-leb, lt-ltb}
use Rattle.std.proofs.lemmas.Bool.Decides.{Decides-eqb, nat_tests}
use Rattle.std.proofs.lemmas.Slice.Eq.{slice_eq-Decides}
use Rattle.std.proofs.lemmas.Fmt.{length-decimal-le}
use Rattle.std.specs.Int.{w64}
use Rattle.std.specs.Fmt.{signed_decimal}
use Rattle.std.specs.Option.{option_and_then}
use Rattle.byte_texts.specs.Decimals.{numeral_of}
use Rattle.byte_texts.specs.declared.decimals.Numeral.{Numeral}
use Rattle.byte_texts.proofs.Numerals.{negative_again, numeral_again, numeral_grows, numeral_spell}
use Rattle.typed_values.specs.Fields.{same_bytes}
use Rattle.typed_values.specs.Numbers.{number, signed}

pub same-true : (s t : List ℕ) → same_bytes s t ≡ true → s ≡ t
same-true s t h = (slice_eq-Decides Decides-eqb s t _ refl).0 h

pub same-self : (s t : List ℕ) → s ≡ t → same_bytes s t ≡ true
same-self s t h = (slice_eq-Decides Decides-eqb s t _ refl).1 h

-- ---- a numeral and its number of 64 bits

abbrev IsRead : List ℕ → ℤ → Type 0
IsRead t z = (t ≡ signed_decimal z) × (length t ≤ 21)

below : (t : List ℕ) (size : ℕ) (z : ℤ) → t ≡ 45 ∷ decimal size → 0 < size
    → cond (nat_le size (2 ^ 63)) (Some (negsuc (size - 1))) None ≡ Some z → IsRead t z
below t size z is some e = go (nat_le size (2 ^ 63)) refl e
  where
    go : (c : Bool) → nat_le size (2 ^ 63) ≡ c → cond c (Some (negsuc (size - 1))) None ≡ Some z → IsRead t z
    go false h k = absurd cc
    go true h k =
        let few : size ≤ 2 ^ 63 = grind (arith, nat_tests) in
        let same : negsuc (size - 1) ≡ z = cc in
        let next : size ≡ suc (size - 1) = omega arith in
        let short : length (decimal size) ≤ 20 = length-decimal-le 20 size (omega arith) (omega arith) (omega arith) in
        (is ∙ ap (λ n. 45 ∷ decimal n) next ∙ ap signed_decimal same, omega (arith, ap length is))

above : (t : List ℕ) (size : ℕ) (z : ℤ) → t ≡ decimal size
    → cond (nat_lt size (2 ^ 63)) (Some (pos size)) None ≡ Some z → IsRead t z
above t size z is e = go (nat_lt size (2 ^ 63)) refl e
  where
    go : (c : Bool) → nat_lt size (2 ^ 63) ≡ c → cond c (Some (pos size)) None ≡ Some z → IsRead t z
    go false h k = absurd cc
    go true h k =
        let few : size < 2 ^ 63 = grind (arith, nat_tests) in
        let same : pos size ≡ z = cc in
        let short : length (decimal size) ≤ 20 = length-decimal-le 20 size (omega arith) (omega arith) (omega arith) in
        (is ∙ ap signed_decimal same, omega (arith, ap length is))

small : (n : Numeral) (z : ℤ) → signed n ≡ Some z → n.size ≤ 2 ^ 63
small n z e = go n.negative e
  where
    go : (s : Bool) → cond s (cond (nat_le n.size (2 ^ 63)) (Some (negsuc (n.size - 1))) None)
        (cond (nat_lt n.size (2 ^ 63)) (Some (pos n.size)) None) ≡ Some z → n.size ≤ 2 ^ 63
    go true k = by (nat_le n.size (2 ^ 63)) refl k
      where
        by : (c : Bool) → nat_le n.size (2 ^ 63) ≡ c → cond c (Some (negsuc (n.size - 1))) None ≡ Some z
            → n.size ≤ 2 ^ 63
        by true h g = grind (arith, nat_tests)
        by false h g = absurd cc
    go false k = by (nat_lt n.size (2 ^ 63)) refl k
      where
        by : (c : Bool) → nat_lt n.size (2 ^ 63) ≡ c → cond c (Some (pos n.size)) None ≡ Some z → n.size ≤ 2 ^ 63
        by true h g = let less : n.size < 2 ^ 63 = grind (arith, nat_tests) in omega arith
        by false h g = absurd cc

read : (t : List ℕ) (n : Numeral) (z : ℤ) → numeral_of t ≡ Some n → signed n ≡ Some z → IsRead t z
read t n z is e =
    go n.negative refl (numeral_spell t n (omega (arith, small n z e)) is) e
  where
    go : (s : Bool) → n.negative ≡ s → t ≡ cond s (45 ∷ decimal n.size) (decimal n.size)
        → cond s (cond (nat_le n.size (2 ^ 63)) (Some (negsuc (n.size - 1))) None)
        (cond (nat_lt n.size (2 ^ 63)) (Some (pos n.size)) None) ≡ Some z → IsRead t z
    go true h text k = below t n.size z text (numeral_grows t n is h) k
    go false h text k = above t n.size z text k

-- ---- a text and its number

is_read : (t : List ℕ) (z : ℤ) → number t ≡ Some z → IsRead t z
unfolding number
is_read t z e = by (numeral_of t) refl e
  where
    by : (o : Option Numeral) → numeral_of t ≡ o → option_and_then signed o ≡ Some z → IsRead t z
    by None is k = absurd cc
    by (Some n) is k = read t n z is k

again : (z : ℤ) → FitsSigned w64 z → number (signed_decimal z) ≡ Some z
unfolding number
again (pos n) f =
    let less : n < 2 ^ 63 = f.sfits in
    ap (option_and_then signed) (numeral_again n (omega arith))
    ∙ ap (λ c. cond c (Some (pos n)) None) (lt-ltb n (2 ^ 63) less)
again (negsuc n) f =
    let less : n < 2 ^ 63 = f.sfits in
    let back : suc n - 1 ≡ n = omega arith in
    ap (option_and_then signed) (negative_again n (omega arith))
    ∙ ap (λ c. cond c (Some (negsuc (suc n - 1))) None) (le-leb (suc n) (2 ^ 63) (omega arith))
    ∙ ap (λ m. Some (negsuc m)) back

pub number_some : (t : List ℕ) (z : ℤ) → Some z ≡ number t → t ≡ signed_decimal z
number_some t z e = (is_read t z (sym e)).0

-- where a text spells no number, it is no number's spelling
pub unspelt : (t : List ℕ) (o : Option ℤ) → o ≡ number t
    → IfNone o ((z : ℤ) → FitsSigned w64 z → t ≢ signed_decimal z)
unspelt t (Some z) e = tt
unspelt t None e = λ z f is. let same : number t ≡ Some z = ap number is ∙ again z f in cc

pub long_text : (t : List ℕ) → 21 < length t → None ≡ number t
long_text t long = by (number t) refl
  where
    by : (o : Option ℤ) → number t ≡ o → None ≡ o
    by None is = refl
    by (Some z) is = absurd (omega (arith, (is_read t z is).1))
