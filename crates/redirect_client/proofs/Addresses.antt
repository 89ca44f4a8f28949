-- A slot and an address after one another, as they are written and as they are read.
use Rattle.std.proofs.Common.{◌≡◌, ◌≢◌, ℕ, suc, ◌+◌, ◌-◌, ◌<◌, ◌≤◌, true, false, cond, not, List, [], ◌∷◌}
use Rattle.std.proofs.Common.{◌++◌, length, take, drop, get_or, Option, Some, None, nat_eq, nat_lt, refl, ap, sym, subst}
use Rattle.std.proofs.Common.{◌∙◌, arith, decimal, codes, take-append-drop, add-one, length-drop, MatchOption}
use Rattle.std.specs.List.{list_all, position_or_len}
use Rattle.std.specs.Prelude.{position}
use Rattle.std.specs.Cmp.Lexicographic.{pointwise}
use Rattle.std.proofs.Math.Seq.{drop-cons, take-append_seam}
use Rattle.std.proofs.lemmas.Bool.Decides.{nat_tests}
use Rattle.std.proofs.lemmas.List.{take_all}
use Rattle.std.proofs.lemmas.List.Quantifiers.{position-Some}
use Rattle.byte_texts.specs.Decimals.{is_digit, number_in}
use Rattle.byte_texts.proofs.Numerals.{are_digits, number_back, read_number}
use Rattle.key_slots.specs.Numbers.{slot_in}
use Rattle.key_slots.proofs.DecimalNumbers.{read_slot, both, slot_back}
use Rattle.cluster_node.specs.Redirections.{address}

-- ---- the first blank

blank_after : (d rest : List ℕ) → list_all is_digit d ≡ true → position_or_len (λ b. nat_eq b 32) (d ++ 32 ∷ rest) ≡ length d
blank_after [] rest h = refl
blank_after (b ∷ d) rest h =
    let s = both (is_digit b) (list_all is_digit d) h in
    ap (λ c. cond (not c) (1 + position_or_len (λ x. nat_eq x 32) (d ++ 32 ∷ rest)) 0) (no_blank b s.0)
    ∙ ap (λ n. 1 + n) (blank_after d rest s.1) ∙ one_plus (length d)
  where
    no_blank : (b : ℕ) → is_digit b ≡ true → nat_eq b 32 ≡ false
    no_blank b h = grind (arith, nat_tests)

    one_plus : (n : ℕ) → 1 + n ≡ suc n
    one_plus n = omega arith

longer : (d rest : List ℕ) → nat_lt (length d) (length (d ++ 32 ∷ rest)) ≡ true
longer [] rest = more (length rest)
  where
    more : (n : ℕ) → nat_lt 0 (suc n) ≡ true
    more n = grind (arith, nat_tests)
longer (b ∷ d) rest = more (length d) (length (d ++ 32 ∷ rest)) (longer d rest)
  where
    more : (n m : ℕ) → nat_lt n m ≡ true → nat_lt (suc n) (suc m) ≡ true
    more n m h = grind (arith, nat_tests)

first_blank : (d rest : List ℕ) → list_all is_digit d ≡ true → position (λ b. nat_eq b 32) (d ++ 32 ∷ rest) ≡ Some (length d)
first_blank d rest h =
    ap (λ n. cond (nat_lt n (length (d ++ 32 ∷ rest))) (Some n) None) (blank_after d rest h)
    ∙ ap (λ b. cond b (Some (length d)) None) (longer d rest)

seam : (t : List ℕ) (i : ℕ) → position (λ b. nat_eq b 32) t ≡ Some i → t ≡ take i t ++ 32 ∷ drop (i + 1) t
seam t i e =
    let found = position-Some (λ b. nat_eq b 32) t i 0 e in
    sym (take-append-drop i t)
    ∙ ap (λ r. take i t ++ r) (drop-cons t i 0 found.0 ∙ ap (λ k. get_or t i 0 ∷ drop k t) (sym (add-one i)))
    ∙ ap (λ b. take i t ++ b ∷ drop (i + 1) t) (is_blank (get_or t i 0) found.1)
  where
    is_blank : (b : ℕ) → nat_eq b 32 ≡ true → b ≡ 32
    is_blank b h = grind (arith, nat_tests)

-- ---- a text that begins with digits and a blank

module _ (s : ℕ) (small : s < 16384) (a : List ℕ) where
  at : position (λ b. nat_eq b 32) (decimal s ++ 32 ∷ a) ≡ Some (length (decimal s))
  at = first_blank (decimal s) a (are_digits s (omega arith))

  pub cut : (t : List ℕ) (i : ℕ) → t ≡ decimal s ++ 32 ∷ a → position (λ b. nat_eq b 32) t ≡ Some i
      → (take i t ≡ decimal s) × (drop (i + 1) t ≡ a)
  cut t i e p =
      let n : i ≡ length (decimal s) = same (sym p ∙ ap (position (λ b. nat_eq b 32)) e ∙ at) in (
        (λ j. take (n j) (e j)) ∙ take-append_seam (decimal s) (32 ∷ a),
        (λ j. drop (n j + 1) (e j)) ∙ ap (λ k. drop k (decimal s ++ 32 ∷ a)) (add-one (length (decimal s)))
            ∙ after (decimal s),
      )
    where
      same : {n m : ℕ} → Some n ≡ Some m → n ≡ m
      same h = cc

      after : (d : List ℕ) → drop (suc (length d)) (d ++ 32 ∷ a) ≡ a
      after [] = refl
      after (b ∷ d) = after d

-- ---- what a text means where a step of the reading finds nothing, and at its end

abbrev pub place_after : (port slot node : ℕ) → List ℕ
place_after port s n = decimal s ++ 32 ∷ address port n

pub no_blank : (port s nodes : ℕ) (t : List ℕ) → s < 16384 → None ≡ position (λ b. nat_eq b 32) t
    → (n : ℕ) → n < nodes → t ≢ place_after port s n
no_blank port s nodes t h e n below is = differ (e ∙ ap (position (λ b. nat_eq b 32)) is ∙ at s h (address port n))
  where
    differ : {m : ℕ} → None ≡ Some m → ⊥
    differ p = cc

module _ (port s nodes : ℕ) (t : List ℕ) (small : s < 16384) (i : ℕ) (found : Some i ≡ position (λ b. nat_eq b 32) t) where
  prefix : (n : ℕ) → t ≡ place_after port s n → slot_in (take i t) ≡ Some s
  prefix n e = ap slot_in (cut s small (address port n) t i e (sym found)).0 ∙ read_slot s small

  pub no_slot : None ≡ slot_in (take i t) → (n : ℕ) → n < nodes → t ≢ place_after port s n
  no_slot none n below e = differ (none ∙ prefix n e)
    where
      differ : {m : ℕ} → None ≡ Some m → ⊥
      differ p = cc

  pub other_slot : (m : ℕ) → Some m ≡ slot_in (take i t) → m ≢ s → (n : ℕ) → n < nodes → t ≢ place_after port s n
  other_slot m some other n below e = other (same (some ∙ prefix n e))
    where
      same : {a b : ℕ} → Some a ≡ Some b → a ≡ b
      same p = cc

  module _ (y : List ℕ) (rest : y ≡ drop (i + 1) t) where
    back : (n : ℕ) → t ≡ place_after port s n → y ≡ address port n
    back n e = rest ∙ (cut s small (address port n) t i e (sym found)).1

    there : slot_in (take i t) ≡ Some s → (n : ℕ) → y ≡ address port n → t ≡ place_after port s n
    there some n e =
        seam t i (sym found) ∙ ap (λ d. d ++ 32 ∷ drop (i + 1) t) (slot_back (take i t) s some).0
        ∙ ap (λ a. decimal s ++ 32 ∷ a) (sym rest ∙ e)

    then : slot_in (take i t) ≡ Some s → (o : Option ℕ)
        → MatchOption o ((n : ℕ) → n < nodes → y ≢ address port n) (λ n. (n < nodes) × (y ≡ address port n))
        → MatchOption o ((n : ℕ) → n < nodes → t ≢ place_after port s n) (λ n. (n < nodes) × (t ≡ place_after port s n))
    then some None h = λ n below e. h n below (back n e)
    then some (Some n) h = (h.0, there some n h.1)

    pub at_slot : (m : ℕ) → Some m ≡ slot_in (take i t) → m ≡ s → (o : Option ℕ)
        → MatchOption o ((n : ℕ) → n < nodes → y ≢ address port n) (λ n. (n < nodes) × (y ≡ address port n))
        → MatchOption o ((n : ℕ) → n < nodes → t ≢ place_after port s n) (λ n. (n < nodes) × (t ≡ place_after port s n))
    at_slot m some same o h = then (sym some ∙ ap Some same) o h

pub rest_of : (t : List ℕ) (k : ℕ) → take (length t - k) (drop k t) ≡ drop k t
rest_of t k = take_all (length t - k) (drop k t) (omega (arith, length-drop k t))

-- what is found where a step finds nothing
pub found_none : {A : Type 0} (o : Option A) (P : Type 0) (Q : A → Type 0) → o ≡ None → P → MatchOption o P Q
found_none o P Q e p = subst (λ v. MatchOption v P Q) (sym e) p

-- ---- an address

pub stripped : (p t rest : List ℕ) → pointwise nat_eq (take (length p) t) p ≡ true → rest ≡ drop (length p) t → t ≡ p ++ rest
stripped [] t rest h e = sym e
stripped (b ∷ p) [] rest h e = cc
stripped (b ∷ p) (a ∷ t) rest h e =
    let s = both (nat_eq a b) (pointwise nat_eq (take (length p) t) p) h in
    ap (λ x. x ∷ t) (same a b s.0) ∙ ap (λ r. b ∷ r) (stripped p t rest s.1 e)
  where
    same : (a b : ℕ) → nat_eq a b ≡ true → a ≡ b
    same a b h = grind (arith, nat_tests)

module _ (port nodes low count : ℕ) (t rest : List ℕ) (most : port ≤ 65528) (few : nodes ≤ 255) (l : low ≡ port) (k : count ≡ nodes) (is : t ≡ codes "127.0.0.1:" ++ rest) where
  pub no_port : None ≡ number_in low (low + count - 1) rest → (n : ℕ) → n < nodes → t ≢ address port n
  no_port none n below e = differ (none ∙ ap (number_in low (low + count - 1)) (tail (sym is ∙ e)) ∙ read)
    where
      tail : codes "127.0.0.1:" ++ rest ≡ address port n → rest ≡ decimal (port + n)
      tail h = cc

      read : number_in low (low + count - 1) (decimal (port + n)) ≡ Some (port + n)
      read = read_number low (low + count - 1) (port + n) (omega arith) (omega arith) (omega arith)

      differ : {m : ℕ} → None ≡ Some m → ⊥
      differ p = cc

  pub at_port : (p m : ℕ) → 1 ≤ nodes → Some p ≡ number_in low (low + count - 1) rest → m ≡ p - low → (m < nodes) × (t ≡ address port m)
  at_port p m some found e =
      let b = number_back low (low + count - 1) rest p (omega arith) (sym found) in
      let from : low ≤ p = b.1 in
      let to : p ≤ low + count - 1 = b.2 in
      let sum : p ≡ port + m = omega arith in
      (omega arith, is ∙ ap (λ d. codes "127.0.0.1:" ++ d) (b.0 ∙ ap decimal sum))
