-- A text and its parts.
use Rattle.std.proofs.Common.{◌≡◌, ℕ, ◌+◌, ◌<◌, ◌≤◌, true, false, cond, List, [], ◌∷◌, ◌++◌, length, take, drop}
use Rattle.std.proofs.Common.{get_or, None, Some, nat_eq, nat_lt, position, subst, sym, ap, refl, ◌∙◌, arith, add-one}
use Rattle.std.proofs.Common.{take-append-drop, length-take, length-drop, ◌-◌, Bool, ◌≢◌}
use Rattle.std.proofs.Math.Seq.{drop-cons}
use Rattle.std.specs.List.{position_or_len, slice_split, onto_first}
use Rattle.std.proofs.lemmas.Bool.Decides.{nat_tests}
use Rattle.std.proofs.lemmas.List.Quantifiers.{position-Some}
use Rattle.std.proofs.lemmas.List.{get_or-take, take_all}
use Rattle.std.proofs.lemmas.List.Elements.{All-from_get_or, All-cons, All-head, All-nil, All-tail}
use Rattle.std.specs.List.{All}
use Rattle.std.proofs.lemmas.List.Splits.{slice_split_none, slice_split_at, length-slice_split}
use Rattle.std.proofs.lemmas.List.Splits.{join_with_byte-slice_split}
use Rattle.std.proofs.lemmas.List.Sums.{fails_before_first, position_or_len_is}
use Rattle.std.proofs.lemmas.Simd.{run_in_chunk_fails, run_in_chunk_le, run_in_chunk_stops}
use lib.Lanes.{chunk}
use Rattle.byte_texts.specs.Parts.{parts, is_nothing, Lacks, TextsAreTheirParts}

-- a text has one part at least
pub parts_some : (byte : ℕ) (t : List ℕ) → parts byte t ≡ [] → ⊥
parts_some byte t e =
    let n : length (parts byte t) ≡ _ = length-slice_split (λ b. nat_eq b byte) t in
    let z : length (parts byte t) ≡ 0 = ap length e in
    omega arith

none_found : (p : ℕ → Bool) (t : List ℕ) → position p t ≡ None → length t ≤ position_or_len p t
none_found p t e = grind (arith, nat_tests)

pub parts_one : (byte : ℕ) (t : List ℕ) → position (λ b. nat_eq b byte) t ≡ None → parts byte t ≡ t ∷ []
parts_one byte t e =
    let p : ℕ → Bool = λ b. nat_eq b byte in
    let far : length t ≤ position_or_len p t = none_found p t e in
    slice_split_none p t (λ k d h. fails_before_first p t k d (omega arith))

seam : (t : List ℕ) (i : ℕ) → i < length t → t ≡ take i t ++ get_or t i 0 ∷ drop (i + 1) t
seam t i h =
    sym (take-append-drop i t)
    ∙ ap (λ r. take i t ++ r) (drop-cons t i 0 h ∙ ap (λ k. get_or t i 0 ∷ drop k t) (sym (add-one i)))

pub parts_more : (byte : ℕ) (t : List ℕ) (i : ℕ) → position (λ b. nat_eq b byte) t ≡ Some i
    → parts byte t ≡ take i t ∷ parts byte (drop (i + 1) t)
parts_more byte t i e =
    let p : ℕ → Bool = λ b. nat_eq b byte in
    let found = position-Some p t i 0 e in
    let before : All (λ x. p x ≡ false) (take i t) = All-from_get_or (λ x. p x ≡ false) (take i t) 0 (λ k h.
    let less : k < i = omega (arith, length-take i t) in
    subst (λ x. p x ≡ false) (sym (get_or-take i t k 0 less)) (found.2 k less)) in
    ap (slice_split p) (seam t i found.0) ∙ slice_split_at p (take i t) (get_or t i 0) (drop (i + 1) t) before found.1

pub rest_cut : (t : List ℕ) (k : ℕ) → take (length t - k) (drop k t) ≡ drop k t
rest_cut t k = take_all (length t - k) (drop k t) (omega (arith, length-drop k t))

pub nothing : (byte : ℕ) (t : List ℕ) → length t ≡ 0 → is_nothing (parts byte t) ≡ true
nothing byte [] e = refl
nothing byte (b ∷ t) e = absurd (omega arith)

two : (first : List ℕ) (rest : List (List ℕ)) → (rest ≡ [] → ⊥) → is_nothing (first ∷ rest) ≡ false
two [] [] h = absurd (h refl)
two [] (part ∷ more) h = refl
two (b ∷ t) rest h = refl

longer : (b : ℕ) (rest : List (List ℕ)) → is_nothing (onto_first b rest) ≡ false
longer b [] = refl
longer b (part ∷ more) = refl

pub something : (byte : ℕ) (t : List ℕ) → 0 < length t → is_nothing (parts byte t) ≡ false
something byte [] h = absurd (omega arith)
something byte (b ∷ t) h = by_byte (nat_eq b byte)
  where
    by_byte : (yes : Bool) → is_nothing (cond yes ([] ∷ parts byte t) (onto_first b (parts byte t))) ≡ false
    by_byte true = two [] (parts byte t) (parts_some byte t)
    by_byte false = longer b (parts byte t)

pub ruleset parts_cut = (parts_one, parts_more, rest_cut)

-- ---- 16 bytes at a time

-- none of the first n bytes passes
abbrev pub NoneOf : (p : ℕ → Bool) → ℕ → List ℕ → Type 0
NoneOf p n t = (k : ℕ) → k < n → p (get_or t k 0) ≡ false

passed : (p : ℕ → Bool) (t : List ℕ) (i r : ℕ) → i + 16 ≤ length t → r ≡ position_or_len p (chunk i 16 t) → NoneOf p i t
    → NoneOf p (i + r) t
passed p t i r room counted before k h = by (nat_lt k i) refl
  where
    by : (yes : Bool) → nat_lt k i ≡ yes → p (get_or t k 0) ≡ false
    by true e = before k (grind (arith, nat_tests))
    by false e = run_in_chunk_fails p t i 16 r 0 room counted k (grind (arith, nat_tests)) h

pub passed_all : (p : ℕ → Bool) (t : List ℕ) (i r : ℕ) → i + 16 ≤ length t → r ≡ position_or_len p (chunk i 16 t)
    → NoneOf p i t → 16 ≤ r → NoneOf p (i + 16) t
passed_all p t i r room counted before all k h = passed p t i r room counted before k (omega arith)

pub stopped : (p : ℕ → Bool) (t : List ℕ) (i r : ℕ) → i + 16 ≤ length t → r ≡ position_or_len p (chunk i 16 t)
    → NoneOf p i t → r < 16 → i + r ≡ position_or_len p t
stopped p t i r room counted before within =
    sym (position_or_len_is p t (i + r) 0 (omega arith) (passed p t i r room counted before)
    (λ h. run_in_chunk_stops p t i 16 r 0 room counted within))

-- the last 16 bytes begin before the place that is reached
pub ended : (p : ℕ → Bool) (t : List ℕ) (start last r : ℕ) → last + 16 ≡ length t → last ≤ start
    → r ≡ position_or_len p (chunk last 16 t) → NoneOf p start t → last + r ≡ position_or_len p t
ended p t start last r whole within counted before = by (nat_lt r 16) refl
  where
    short : NoneOf p last t
    short k h = before k (omega arith)

    by : (yes : Bool) → nat_lt r 16 ≡ yes → last + r ≡ position_or_len p t
    by true e = stopped p t last r (omega arith) counted short (grind (arith, nat_tests))
    by false e =
        let most : r ≤ 16 = run_in_chunk_le p t last 16 r 0 (omega arith) counted in
        let all : last + r ≡ length t = grind (arith, nat_tests) in
        all ∙ sym (position_or_len_is p t (length t) 0 (omega arith)
        (λ k h. passed_all p t last r (omega arith) counted short (grind (arith, nat_tests)) k (omega arith))
        (λ h. absurd (omega arith)))

-- ---- the parts are the text

other_byte : (b byte : ℕ) → nat_eq b byte ≡ false → b ≢ byte
other_byte b byte e is = grind (arith, nat_tests)

abbrev OneApart : ℕ → List ℕ → Type 0
OneApart byte part = All (Lacks byte) part

onto : (byte b : ℕ) (ps : List (List ℕ)) → b ≢ byte → All (OneApart byte) ps → All (OneApart byte) (onto_first b ps)
onto byte b [] differs h =
    All-cons (OneApart byte) (b ∷ []) [] (All-cons (Lacks byte) b [] differs (All-nil (Lacks byte)))
    (All-nil (OneApart byte))
onto byte b (p ∷ ps) differs h =
    All-cons (OneApart byte) (b ∷ p) ps (All-cons (Lacks byte) b p differs (All-head (OneApart byte) p ps h))
    (All-tail (OneApart byte) p ps h)

apart : (byte : ℕ) (t : List ℕ) → All (OneApart byte) (parts byte t)
apart byte [] = All-cons (OneApart byte) [] [] (All-nil (Lacks byte)) (All-nil (OneApart byte))
apart byte (b ∷ t) = by_byte (nat_eq b byte) refl (apart byte t)
  where
    by_byte : (yes : Bool) → nat_eq b byte ≡ yes → All (OneApart byte) (parts byte t)
        → All (OneApart byte) (cond yes ([] ∷ parts byte t) (onto_first b (parts byte t)))
    by_byte true e h = All-cons (OneApart byte) [] (parts byte t) (All-nil (Lacks byte)) h
    by_byte false e h = onto byte b (parts byte t) (other_byte b byte e) h

pub their_parts : TextsAreTheirParts
their_parts = record { apart = apart; joined = λ byte t. join_with_byte-slice_split byte t }
