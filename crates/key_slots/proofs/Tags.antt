-- The hash tag by its braces.
use Rattle.std.proofs.Common.{◌≡◌, ◌≢◌, ℕ, suc, ◌+◌, ◌<◌, ◌≤◌, true, false, cond, List, [], ◌∷◌, ◌++◌, length, drop, take, None, Some, nat_eq, nat_lt, ap, refl, ◌∙◌, arith}
use Rattle.std.proofs.lemmas.Bool.Decides.{nat_tests}
use Rattle.std.proofs.lemmas.List.Elements.{All-head, All-nil, All-tail}
use Rattle.std.proofs.Math.Seq.{take-append_seam}
use Rattle.std.specs.List.{position_or_len}
use Rattle.key_slots.specs.HashTag.{Lacks, TagsAreBetweenBraces, place, tag, tag_at, tag_inside}

differs : (a b : ℕ) → a ≢ b → nat_eq a b ≡ false
differs a b ne = grind (arith, nat_tests)

itself : (b : ℕ) → nat_eq b b ≡ true
itself b = grind (arith, nat_tests)

is_less : (a b : ℕ) → a < b → nat_lt a b ≡ true
is_less a b lt = grind (arith, nat_tests)

not_less : (a b : ℕ) → b ≤ a → nat_lt a b ≡ false
not_less a b le = grind (arith, nat_tests)

passed : (byte : ℕ) (xs : List ℕ) → Lacks xs byte → position_or_len (λ b. nat_eq b byte) xs ≡ length xs
passed byte [] h = refl
passed byte (x ∷ xs) h =
    let no : nat_eq x byte ≡ false = differs x byte (All-head (λ b. b ≢ byte) x xs h) in
    let rest : position_or_len (λ b. nat_eq b byte) xs ≡ length xs = passed byte xs (All-tail (λ b. b ≢ byte) x xs h) in
    rw no (omega (arith, rest))

found : (byte : ℕ) (xs ys : List ℕ) → Lacks xs byte → position_or_len (λ b. nat_eq b byte) (xs ++ byte ∷ ys) ≡ length xs
found byte [] ys h = rw (itself byte)
found byte (x ∷ xs) ys h =
    let no : nat_eq x byte ≡ false = differs x byte (All-head (λ b. b ≢ byte) x xs h) in
    let rest : position_or_len (λ b. nat_eq b byte) (xs ++ byte ∷ ys) ≡ length xs = found byte xs ys (All-tail (λ b. b ≢ byte) x xs h) in
    rw no (omega (arith, rest))

place_none : (byte : ℕ) (xs : List ℕ) → Lacks xs byte → place byte xs ≡ None
place_none byte xs h =
    let at : position_or_len (λ b. nat_eq b byte) xs ≡ length xs = passed byte xs h in
    ap (λ n. cond (nat_lt n (length xs)) (Some n) None) at ∙ ap (λ t. cond t (Some (length xs)) None) (not_less (length xs) (length xs) (omega arith))

longer : (byte : ℕ) (xs ys : List ℕ) → length xs < length (xs ++ byte ∷ ys)
longer byte [] ys = omega arith
longer byte (x ∷ xs) ys = let h = longer byte xs ys in omega arith

place_some : (byte : ℕ) (xs ys : List ℕ) → Lacks xs byte → place byte (xs ++ byte ∷ ys) ≡ Some (length xs)
place_some byte xs ys h =
    let at : position_or_len (λ b. nat_eq b byte) (xs ++ byte ∷ ys) ≡ length xs = found byte xs ys h in
    ap (λ n. cond (nat_lt n (length (xs ++ byte ∷ ys))) (Some n) None) at
    ∙ ap (λ t. cond t (Some (length xs)) None) (is_less (length xs) (length (xs ++ byte ∷ ys)) (longer byte xs ys))

past_byte : (byte : ℕ) (xs ys : List ℕ) → drop (length xs + 1) (xs ++ byte ∷ ys) ≡ ys
past_byte byte [] ys = refl
past_byte byte (x ∷ xs) ys =
    let at : length (x ∷ xs) + 1 ≡ suc (length xs + 1) = omega arith in
    ap (λ n. drop n ((x ∷ xs) ++ byte ∷ ys)) at ∙ past_byte byte xs ys

-- with the first `{` found, what follows decides
opened : (before rest : List ℕ) → Lacks before 123 → tag (before ++ 123 ∷ rest) ≡ tag_inside (before ++ 123 ∷ rest) rest (place 125 rest)
opened before rest h =
    ap (tag_at (before ++ 123 ∷ rest)) (place_some 123 before rest h)
    ∙ ap (λ r. tag_inside (before ++ 123 ∷ rest) r (place 125 r)) (past_byte 123 before rest)

not_empty : (key inner after : List ℕ) → inner ≢ [] → cond (nat_eq (length inner) 0) key (take (length inner) (inner ++ after)) ≡ inner
not_empty key [] after ne = absurd (ne refl)
not_empty key (x ∷ xs) after ne =
    let no : nat_eq (length (x ∷ xs)) 0 ≡ false = differs (length (x ∷ xs)) 0 (omega arith) in
    rw no (take-append_seam (x ∷ xs) after)

pub tags_are_between_braces : TagsAreBetweenBraces
tags_are_between_braces = record {
  inside = λ before inner after first close ne.
      opened before (inner ++ 125 ∷ after) first
      ∙ ap (tag_inside (before ++ 123 ∷ (inner ++ 125 ∷ after)) (inner ++ 125 ∷ after)) (place_some 125 inner after close)
      ∙ not_empty (before ++ 123 ∷ (inner ++ 125 ∷ after)) inner (125 ∷ after) ne;
  no_open = λ key none. ap (tag_at key) (place_none 123 key none);
  no_close = λ before rest first close. opened before rest first ∙ ap (tag_inside (before ++ 123 ∷ rest) rest) (place_none 125 rest close);
  nothing = λ before after first.
      opened before (125 ∷ after) first
      ∙ ap (tag_inside (before ++ 123 ∷ (125 ∷ after)) (125 ∷ after)) (place_some 125 [] after (All-nil (λ b. b ≢ 125)));
}
