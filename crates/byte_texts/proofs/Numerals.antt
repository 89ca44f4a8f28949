-- A text that is read as a number is that number written, and what is written of a number is read as it.
use Rattle.std.proofs.Common.{◌≡◌, ℕ, zero, suc, ◌+◌, ◌-◌, ◌*◌, ◌/◌, ◌%◌, ◌≤◌, ◌<◌, ◌^◌, Bool, true, false, cond, eqb, leb}
use Rattle.std.proofs.Common.{◌&&◌, List, [], ◌∷◌, ◌++◌, length, get_or, Option, Some, None, refl, sym, ap, ◌∙◌, subst}
use Rattle.std.proofs.Common.{append_assoc, arith, decimal, ne_eqb, inl, inr, ◌⊎◌, eqb-true, nat_le}
use Rattle.std.specs.List.{list_all}
use Rattle.std.specs.Option.{option_and_then}
use Rattle.std.proofs.lemmas.List.{append-nil, nil_from_length}
use Rattle.std.proofs.lemmas.List.Folds.{list_all-append}
use Rattle.std.proofs.lemmas.Bool.{le-leb}
use Rattle.std.proofs.lemmas.Bool.Decides.{nat_tests}
use Rattle.std.proofs.lemmas.Fmt.{decimal_step_wide, decimal_digit, decimal_by_steps_wide, first_decimal}
use Rattle.std.proofs.lemmas.Fmt.{length-decimal-le}
use Rattle.byte_texts.specs.declared.decimals.Numeral.{Numeral}
use Rattle.byte_texts.specs.Decimals.{is_digit, digits_from, positive_of, number_of, between, number_in, wide_number}
use Rattle.byte_texts.specs.Decimals.{with_sign, numeral_of, numeral_text, NumbersHaveOneText}

-- ---- what is read is what was written

digit_bounds : (b : ℕ) → is_digit b ≡ true → (48 ≤ b) × (b ≤ 57)
digit_bounds b h = (grind (arith, nat_tests), grind (arith, nat_tests))

some_same : {A : Type 0} (n m : A) → Some n ≡ Some m → n ≡ m
some_same n m e = cc

digits_grow : (n m : ℕ) (ds : List ℕ) → digits_from n ds ≡ Some m → n ≤ m
digits_grow n m [] e = omega (arith, some_same n m e)
digits_grow n m (b ∷ ds) e = go (is_digit b) (digits_grow (10 * n + (b - 48)) m ds) e
  where
    go : (t : Bool) → (digits_from (10 * n + (b - 48)) ds ≡ Some m → 10 * n + (b - 48) ≤ m)
        → cond t (digits_from (10 * n + (b - 48)) ds) None ≡ Some m → n ≤ m
    go true ih f = omega (arith, ih f)
    go false ih f = absurd cc

digits_spell : (n m : ℕ) (ds : List ℕ) → 0 < n → m < 10 ^ 64 → digits_from n ds ≡ Some m → decimal m ≡ decimal n ++ ds
digits_spell n m [] some lt e = ap decimal (sym (some_same n m e)) ∙ sym (append-nil (decimal n))
digits_spell n m (b ∷ ds) some lt e =
    go (is_digit b) refl (digits_spell (10 * n + (b - 48)) m ds (omega arith) lt) e
  where
    go : (t : Bool) → is_digit b ≡ t
        → (digits_from (10 * n + (b - 48)) ds ≡ Some m → decimal m ≡ decimal (10 * n + (b - 48)) ++ ds)
        → cond t (digits_from (10 * n + (b - 48)) ds) None ≡ Some m → decimal m ≡ decimal n ++ b ∷ ds
    go false is ih f = absurd cc
    go true is ih f =
        let d = digit_bounds b is in
        let le : 10 * n + (b - 48) ≤ m = digits_grow (10 * n + (b - 48)) m ds f in
        let step = decimal_step_wide (10 * n + (b - 48)) (omega arith) (omega arith) in
        let q : (10 * n + (b - 48)) / 10 ≡ n = omega arith in
        let r : 48 + (10 * n + (b - 48)) % 10 ≡ b = omega arith in
        let one : decimal (10 * n + (b - 48)) ≡ decimal n ++ b ∷ [] = rw (q, r) at step in
        ih f ∙ ap (λ (t : List ℕ). t ++ ds) one ∙ append_assoc (decimal n) (b ∷ []) ds

positive_spell : (m : ℕ) (text : List ℕ) → m < 10 ^ 64 → positive_of text ≡ Some m → text ≡ decimal m
positive_spell m [] lt e = absurd cc
positive_spell m (b ∷ ds) lt e = go (leb 49 b && leb b 57) refl e
  where
    go : (t : Bool) → (leb 49 b && leb b 57) ≡ t → cond t (digits_from (b - 48) ds) None ≡ Some m → b ∷ ds ≡ decimal m
    go false is f = absurd cc
    go true is f =
        let low : 49 ≤ b = grind (arith, nat_tests) in
        let high : b ≤ 57 = grind (arith, nat_tests) in
        let one : decimal (b - 48) ≡ b ∷ [] =
        decimal_digit (b - 48) (omega arith) ∙ ap (λ (x : ℕ). x ∷ []) (omega arith) in
        sym (rw one at (digits_spell (b - 48) m ds (omega arith) lt f))

positive_grows : (m : ℕ) (text : List ℕ) → positive_of text ≡ Some m → 0 < m
positive_grows m [] e = absurd cc
positive_grows m (b ∷ ds) e = go (leb 49 b && leb b 57) refl e
  where
    go : (t : Bool) → (leb 49 b && leb b 57) ≡ t → cond t (digits_from (b - 48) ds) None ≡ Some m → 0 < m
    go false is f = absurd cc
    go true is f = let low : 49 ≤ b = grind (arith, nat_tests) in omega (arith, digits_grow (b - 48) m ds f)

-- which way a test went
chosen : {A : Type 0} (b : Bool) (x y z : A) → cond b x y ≡ z → ((b ≡ true) × (x ≡ z)) ⊎ ((b ≡ false) × (y ≡ z))
chosen true x y z e = inl (refl, e)
chosen false x y z e = inr (refl, e)

pub number_spell : (text : List ℕ) (n : ℕ) → n < 10 ^ 64 → number_of text ≡ Some n → text ≡ decimal n
unfolding number_of
number_spell [] n lt e = absurd cc
number_spell (b ∷ text) n lt e =
    elim (chosen (eqb b 48 && eqb (length text) 0) (Some 0) (positive_of (b ∷ text)) (Some n) e) [
      | inl k ↦
          let both : (b ≡ 48) × (length text ≡ 0) = (grind (arith, nat_tests), grind (arith, nat_tests)) in
          subst (λ (x : ℕ). b ∷ text ≡ decimal x) (some_same 0 n k.1)
          (rw (both.0, nil_from_length text both.1) (sym (decimal_digit 0 (omega arith))))
      | inr k ↦ positive_spell n (b ∷ text) lt k.1
    ]

signed : (s : Bool) (o : Option ℕ) (n : Numeral) → with_sign s o ≡ Some n → (o ≡ Some n.size) × (n.negative ≡ s)
signed s None n e = absurd cc
signed s (Some k) n e =
    let p : record { negative = s; size = k } ≡ n = some_same (record { negative = s; size = k }) n e in
    (ap (λ (x : Numeral). Some x.size) p, sym (ap (λ (x : Numeral). x.negative) p))

pub numeral_spell : (text : List ℕ) (n : Numeral) → n.size < 10 ^ 64 → numeral_of text ≡ Some n → text ≡ numeral_text n
unfolding numeral_of
numeral_spell [] n lt e = absurd cc
numeral_spell (b ∷ text) n lt e =
    elim (chosen (eqb b 45) (with_sign true (positive_of text)) (with_sign false (number_of (b ∷ text))) (Some n) e) [
      | inl h ↦
          let p = signed true (positive_of text) n h.1 in
          let same : b ≡ 45 = eqb-true b 45 h.0 in
          rw (p.1, same, positive_spell n.size text lt p.0) refl
      | inr h ↦
          let p = signed false (number_of (b ∷ text)) n h.1 in
          rw p.1 (number_spell (b ∷ text) n.size lt p.0)
    ]

-- a negative numeral is never 0
pub numeral_grows : (text : List ℕ) (n : Numeral) → numeral_of text ≡ Some n → n.negative ≡ true → 0 < n.size
unfolding numeral_of
numeral_grows [] n e neg = absurd cc
numeral_grows (b ∷ text) n e neg =
    elim (chosen (eqb b 45) (with_sign true (positive_of text)) (with_sign false (number_of (b ∷ text))) (Some n) e) [
      | inl h ↦ positive_grows n.size text (signed true (positive_of text) n h.1).0
      | inr h ↦ (let no : n.negative ≡ false = (signed false (number_of (b ∷ text)) n h.1).1 in absurd cc)
    ]

-- ---- what is written is read

abbrev Reads : ℕ → List ℕ → Type 0
Reads n ds = (list_all is_digit ds ≡ true) × ((after : List ℕ) → digits_from 0 (ds ++ after) ≡ digits_from n after)

is_a_digit : (d : ℕ) → d < 10 → is_digit (48 + d) ≡ true
is_a_digit d lt = rw (le-leb 48 (48 + d) (omega arith), le-leb (48 + d) 57 (omega arith)) refl

decimal_reads : (n : ℕ) → n < 10 ^ 64 → Reads n (decimal n)
decimal_reads n lt = decimal_by_steps_wide Reads
    (λ d small. (
      rw (is_a_digit d small) refl,
      λ after. let v : 10 * 0 + (48 + d - 48) ≡ d = omega arith in rw (is_a_digit d small, v) refl,
    ))
    (λ m ds big h.
    let small : m % 10 < 10 = omega arith in (
      list_all-append is_digit ds ((48 + m % 10) ∷ []) ∙ rw (h.0, is_a_digit (m % 10) small) refl,
      λ after.
          let v : 10 * (m / 10) + (48 + m % 10 - 48) ≡ m = omega arith in
          rw (append_assoc ds ((48 + m % 10) ∷ []) after, h.1 ((48 + m % 10) ∷ after), is_a_digit (m % 10) small, v) refl,
    ))
    n lt

pub are_digits : (n : ℕ) → n < 10 ^ 64 → list_all is_digit (decimal n) ≡ true
are_digits n lt = (decimal_reads n lt).0

positive_from : (ds : List ℕ) → 48 < get_or ds 0 0 → positive_of ds ≡ digits_from 0 ds
positive_from [] h = absurd (omega arith)
positive_from (b ∷ ds) h =
    let zero_times : 10 * 0 + (b - 48) ≡ b - 48 = omega arith in
    let low : leb 48 b ≡ true = le-leb 48 b (omega arith) in
    let first : leb 49 b ≡ true = le-leb 49 b (omega arith) in
    rw (zero_times, low, first) refl

value_again : (n : ℕ) → n < 10 ^ 64 → digits_from 0 (decimal n) ≡ Some n
value_again n lt = rw append-nil at ((decimal_reads n lt).1 [])

number_from : (ds : List ℕ) → 48 < get_or ds 0 0 → number_of ds ≡ positive_of ds
unfolding number_of
number_from [] h = absurd (omega arith)
number_from (b ∷ ds) h =
    let none : eqb b 48 ≡ false = ne_eqb _ _ (omega arith) in
    rw none refl

number_zero : number_of (48 ∷ []) ≡ Some 0
unfolding number_of
number_zero = refl

pub number_again : (n : ℕ) → n < 2 ^ 64 → number_of (decimal n) ≡ Some n
number_again zero lt = ap number_of (decimal_digit 0 (omega arith)) ∙ number_zero
number_again (suc n) lt =
    let first : 48 < get_or (decimal (suc n)) 0 0 = first_decimal (suc n) (omega arith) lt in
    number_from (decimal (suc n)) first ∙ positive_from (decimal (suc n)) first ∙ value_again (suc n) (omega arith)

numeral_from : (ds : List ℕ) → 47 < get_or ds 0 0 → numeral_of ds ≡ with_sign false (number_of ds)
unfolding numeral_of
numeral_from [] h = absurd (omega arith)
numeral_from (b ∷ ds) h =
    let minus : eqb b 45 ≡ false = ne_eqb _ _ (omega arith) in
    rw minus refl

no_sign : (n : ℕ) → n < 2 ^ 64 → 47 < get_or (decimal n) 0 0
no_sign zero lt = rw (decimal_digit 0 (omega arith)) (omega arith)
no_sign (suc n) lt = let first : 48 < get_or (decimal (suc n)) 0 0 = first_decimal (suc n) (omega arith) lt in omega arith

pub numeral_again : (n : ℕ) → n < 2 ^ 64 → numeral_of (decimal n) ≡ Some (record { negative = false; size = n })
numeral_again n lt = numeral_from (decimal n) (no_sign n lt) ∙ ap (with_sign false) (number_again n lt)

pub negative_again : (n : ℕ) → suc n < 2 ^ 64
    → numeral_of (45 ∷ decimal (suc n)) ≡ Some (record { negative = true; size = suc n })
unfolding numeral_of
negative_again n lt =
    let first : 48 < get_or (decimal (suc n)) 0 0 = first_decimal (suc n) (omega arith) lt in
    rw (positive_from (decimal (suc n)) first, value_again (suc n) (omega arith)) refl

pub one_text : NumbersHaveOneText
one_text t n lt =
    (λ e. number_spell t n (omega arith) e, λ e. ap number_of e ∙ number_again n lt)

-- ---- numbers within bounds

pub is_most : (a b : ℕ) → a ≤ b → nat_le a b ≡ true
is_most a b h = grind (arith, nat_tests)

pub read_number : (least most n : ℕ) → n < 2 ^ 64 → least ≤ n → n ≤ most → number_in least most (decimal n) ≡ Some n
read_number least most n h l m =
    ap (option_and_then (between least most)) (number_again n h)
    ∙ ap (λ b. cond (b && nat_le n most) (Some n) None) (is_most least n l)
    ∙ ap (λ b. cond b (Some n) None) (is_most n most m)

within : (least most v n : ℕ) → between least most v ≡ Some n → (v ≡ n) × (least ≤ v) × (v ≤ most)
within least most v n e =
    elim (chosen (nat_le least v && nat_le v most) (Some v) None (Some n) e) [
      | inl h ↦ (some_same v n h.1, grind (arith, nat_tests), grind (arith, nat_tests))
      | inr h ↦ (let g = h.1 in absurd cc)
    ]

pub number_back : (least most : ℕ) (t : List ℕ) (n : ℕ) → most < 2 ^ 64 → number_in least most t ≡ Some n
    → (t ≡ decimal n) × (least ≤ n) × (n ≤ most)
number_back least most t n m h = by (number_of t) refl h
  where
    by : (o : Option ℕ) → number_of t ≡ o → option_and_then (between least most) o ≡ Some n
        → (t ≡ decimal n) × (least ≤ n) × (n ≤ most)
    by None is e = absurd cc
    by (Some v) is e =
        let w = within least most v n e in
        let bound : v ≤ most = w.2 in
        (number_spell t v (omega arith) is ∙ ap decimal w.0, omega arith, omega arith)

-- a number of 32 bits has ten digits at most
pub long_word : (least most : ℕ) (t : List ℕ) → most < 2 ^ 32 → 21 < length t → None ≡ number_in least most t
long_word least most t m long = by (number_in least most t) refl
  where
    by : (o : Option ℕ) → number_in least most t ≡ o → None ≡ o
    by None is = refl
    by (Some n) is =
        let b = number_back least most t n (omega arith) is in
        let bound : n ≤ most = b.2 in
        let short : length (decimal n) ≤ 10 = length-decimal-le 10 n (omega arith) (omega arith) (omega arith) in
        absurd (omega (arith, ap length b.0))

-- one of 64 bits has 20
pub wide_word : (t : List ℕ) → 21 < length t → None ≡ wide_number t
wide_word t long = by (wide_number t) refl
  where
    by : (o : Option ℕ) → wide_number t ≡ o → None ≡ o
    by None is = refl
    by (Some n) is =
        let b = number_back 0 18446744073709551615 t n (omega arith) is in
        let bound : n ≤ 18446744073709551615 = b.2 in
        let short : length (decimal n) ≤ 20 = length-decimal-le 20 n (omega arith) (omega arith) (omega arith) in
        absurd (omega (arith, ap length b.0))
