-- Texts of words, and where they are parted.
use Rattle.std.proofs.Common.{◌≡◌, ℕ, ◌+◌, Bool, true, false, not, nat_eq, nat_lt}
use Rattle.std.proofs.Common.{List, [], ◌∷◌, ◌++◌, length, take, drop, Some}
use Rattle.std.proofs.Common.{append_assoc, append-nil, refl, sym, ap, ◌∙◌, arith}
use Rattle.std.specs.List.{list_all, position_or_len}
use Rattle.std.proofs.lemmas.Bool.{and_from, and_parts, eq-eqb, eqb-true, lt-ltb, not-true}
use Rattle.std.proofs.lemmas.List.{length-append, take_at}
use Rattle.std.proofs.lemmas.List.Folds.{list_all-append}
use Rattle.byte_texts.specs.Parts.{parts, split_once}

-- ---- what all have

pub all_weaker : {A : Type 0} (p q : A → Bool) → ((x : A) → p x ≡ true → q x ≡ true) → (xs : List A)
    → list_all p xs ≡ true → list_all q xs ≡ true
all_weaker p q weaker [] h = refl
all_weaker p q weaker (x ∷ xs) h =
    let both = and_parts (p x) (list_all p xs) h in
    and_from (q x) (list_all q xs) (weaker x both.0) (all_weaker p q weaker xs both.1)

pub all_appended : {A : Type 0} (p : A → Bool) (xs ys : List A) → list_all p xs ≡ true → list_all p ys ≡ true
    → list_all p (xs ++ ys) ≡ true
all_appended p xs ys f g = list_all-append p xs ys ∙ and_from (list_all p xs) (list_all p ys) f g

-- the byte stands nowhere in the text
abbrev pub lacks : (byte : ℕ) → List ℕ → Bool
lacks byte t = list_all (λ b. not (nat_eq b byte)) t

other_byte : (p : ℕ → Bool) (byte b : ℕ) → p byte ≡ false → p b ≡ true → not (nat_eq b byte) ≡ true
other_byte p byte b none some = by (nat_eq b byte) refl
  where
    by : (e : Bool) → nat_eq b byte ≡ e → not e ≡ true
    by true e = absurd (differ (sym some ∙ ap p (eqb-true b byte e) ∙ none))
      where
        differ : true ≡ false → ⊥
        differ h = cc
    by false e = refl

-- bytes of a kind that the byte is not of
pub others_lack : (p : ℕ → Bool) (byte : ℕ) → p byte ≡ false → (t : List ℕ) → list_all p t ≡ true
    → lacks byte t ≡ true
others_lack p byte none t h =
    all_weaker p (λ b. not (nat_eq b byte)) (λ b some. other_byte p byte b none some) t h

-- ---- parts

pub parts_at : (byte : ℕ) (w t : List ℕ) → lacks byte w ≡ true → parts byte (w ++ byte ∷ t) ≡ w ∷ parts byte t
parts_at byte [] t h = let here : nat_eq byte byte ≡ true = eq-eqb byte byte refl in rw here refl
parts_at byte (b ∷ w) t h =
    let both = and_parts (not (nat_eq b byte)) (lacks byte w) h in
    let other : nat_eq b byte ≡ false = not-true (nat_eq b byte) both.0 in
    rw (other, parts_at byte w t both.1) refl

parts_whole : (byte : ℕ) (w : List ℕ) → lacks byte w ≡ true → parts byte w ≡ w ∷ []
parts_whole byte [] h = refl
parts_whole byte (b ∷ w) h =
    let both = and_parts (not (nat_eq b byte)) (lacks byte w) h in
    let other : nat_eq b byte ≡ false = not-true (nat_eq b byte) both.0 in
    rw (other, parts_whole byte w both.1) refl

-- words, each behind this byte
abbrev pub each_behind : (byte : ℕ) → List (List ℕ) → List ℕ
each_behind byte [] = []
each_behind byte (w ∷ ws) = byte ∷ (w ++ each_behind byte ws)

pub behind_both : (byte : ℕ) (ws vs : List (List ℕ))
    → each_behind byte (ws ++ vs) ≡ each_behind byte ws ++ each_behind byte vs
behind_both byte [] vs = refl
behind_both byte (w ∷ ws) vs =
    ap (λ t. byte ∷ (w ++ t)) (behind_both byte ws vs)
    ∙ ap (λ t. byte ∷ t) (sym (append_assoc w (each_behind byte ws) (each_behind byte vs)))

pub parts_behind : (byte : ℕ) (w : List ℕ) (ws : List (List ℕ)) → lacks byte w ≡ true
    → list_all (lacks byte) ws ≡ true → parts byte (w ++ each_behind byte ws) ≡ w ∷ ws
parts_behind byte w [] one all = ap (parts byte) (append-nil w) ∙ parts_whole byte w one
parts_behind byte w (v ∷ vs) one all =
    let both = and_parts (lacks byte v) (list_all (lacks byte) vs) all in
    parts_at byte w (v ++ each_behind byte vs) one ∙ ap (λ ps. w ∷ ps) (parts_behind byte v vs both.0 both.1)

-- ---- the first place of a byte

place_at : (byte : ℕ) (w t : List ℕ) → lacks byte w ≡ true
    → position_or_len (λ b. nat_eq b byte) (w ++ byte ∷ t) ≡ length w
place_at byte [] t h = let here : nat_eq byte byte ≡ true = eq-eqb byte byte refl in rw here refl
place_at byte (b ∷ w) t h =
    let both = and_parts (not (nat_eq b byte)) (lacks byte w) h in
    let rest : position_or_len (λ b. nat_eq b byte) (w ++ byte ∷ t) ≡ length w = place_at byte w t both.1 in
    rw (both.0, rest) (omega arith)

pub cut_once : (byte : ℕ) (w t : List ℕ) → lacks byte w ≡ true
    → split_once byte (w ++ byte ∷ t) ≡ Some (w, drop (length w + 1) (w ++ byte ∷ t))
cut_once byte w t h =
    let at : position_or_len (λ b. nat_eq b byte) (w ++ byte ∷ t) ≡ length w = place_at byte w t h in
    let longer : nat_lt (length w) (length (w ++ byte ∷ t)) ≡ true =
    lt-ltb (length w) (length (w ++ byte ∷ t)) (omega (arith, length-append w (byte ∷ t))) in
    let front : take (length w) (w ++ byte ∷ t) ≡ w = take_at w (byte ∷ t) (length w) refl in
    rw (at, longer, front) refl
