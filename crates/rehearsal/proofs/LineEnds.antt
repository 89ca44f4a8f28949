-- A text and its first line feed.
use Rattle.std.proofs.Common.{◌≡◌, ℕ, suc, ◌+◌, ◌-◌, Bool, true, false, cond, List, [], ◌∷◌, ◌++◌, length, take, drop, refl, sym, ap, ◌∙◌, arith, Option, Some, None}
use Rattle.std.specs.Prelude.{nat_eq, nat_lt, position, is_some, option_map, MatchOption}
use Rattle.std.specs.List.{position_or_len}
use Rattle.std.proofs.lemmas.Bool.{true≢false}
use Prim.Native.Nat.compare
use Rattle.byte_texts.specs.Parts.{split_once}
use Rattle.rehearsal.specs.Scripts.{ends_line, IsOneLine}

abbrev pub place : List ℕ → ℕ
place t = position_or_len ends_line t

place_more : (b : ℕ) (t : List ℕ) → nat_eq b 10 ≡ false → place (b ∷ t) ≡ suc (place t)
place_more b t e = rw e (one_plus _)
  where
    one_plus : (n : ℕ) → 1 + n ≡ suc n
    one_plus n = omega arith

place_here : (b : ℕ) (t : List ℕ) → nat_eq b 10 ≡ true → place (b ∷ t) ≡ 0
place_here b t e = rw e refl

suc_lt : (n m : ℕ) → nat_lt (suc n) (suc m) ≡ nat_lt n m
suc_lt n m = rw (compare.suc-suc (suc n) m) refl

some : (n : ℕ) → nat_lt 0 (suc n) ≡ true
some n = grind arith

feed : (b : ℕ) → nat_eq b 10 ≡ true → b ≡ 10
feed b e = grind arith

prefix : (t : List ℕ) → IsOneLine (take (place t) t)
prefix [] = refl
prefix (b ∷ t) = by (prefix t) (nat_eq b 10) refl
  where
    by : IsOneLine (take (place t) t) → (c : Bool) → nat_eq b 10 ≡ c → IsOneLine (take (place (b ∷ t)) (b ∷ t))
    by rest true e = rw (place_here b t e) refl
    by rest false e = rw (place_more b t e, e) rest

parted : (t : List ℕ) → nat_lt (place t) (length t) ≡ true → t ≡ take (place t) t ++ 10 ∷ drop (suc (place t)) t
parted [] h = absurd (true≢false (sym h))
parted (b ∷ t) h = by (parted t) (nat_eq b 10) refl
  where
    by : (nat_lt (place t) (length t) ≡ true → t ≡ take (place t) t ++ 10 ∷ drop (suc (place t)) t) → (c : Bool) → nat_eq b 10 ≡ c → b ∷ t ≡ take (place (b ∷ t)) (b ∷ t) ++ 10 ∷ drop (suc (place (b ∷ t))) (b ∷ t)
    by rest true e = rw (place_here b t e) (ap (λ x. x ∷ t) (feed b e))
    by rest false e = rw (place_more b t e) (ap (λ x. b ∷ x) (rest (sym (suc_lt (place t) (length t)) ∙ ap (λ n. nat_lt n (suc (length t))) (sym (place_more b t e)) ∙ h)))

whole : (t : List ℕ) → nat_lt (place t) (length t) ≡ false → IsOneLine t
whole [] h = refl
whole (b ∷ t) h = by (whole t) (nat_eq b 10) refl
  where
    by : (nat_lt (place t) (length t) ≡ false → IsOneLine t) → (c : Bool) → nat_eq b 10 ≡ c → IsOneLine (b ∷ t)
    by rest true e = absurd (true≢false (sym (some (length t)) ∙ ap (λ n. nat_lt n (suc (length t))) (sym (place_here b t e)) ∙ h))
    by rest false e = rw e (rest (sym (suc_lt (place t) (length t)) ∙ ap (λ n. nat_lt n (suc (length t))) (sym (place_more b t e)) ∙ h))

some_is : (c : Bool) (n i : ℕ) → ◌≡◌ {A = Option ℕ} (cond c (Some n) None) (Some i) → (c ≡ true) × (n ≡ i)
some_is true n i h = (refl, ap (λ o. from o) h)
  where
    from : Option ℕ → ℕ
    from None = 0
    from (Some k) = k
some_is false n i h = absurd (no h)
  where
    no : ◌≡◌ {A = Option ℕ} None (Some i) → ⊥
    no e = true≢false (sym (ap is_some e))

none_is : (c : Bool) (n : ℕ) → ◌≡◌ {A = Option ℕ} (cond c (Some n) None) None → c ≡ false
none_is true n h = absurd (no h)
  where
    no : ◌≡◌ {A = Option ℕ} (Some n) None → ⊥
    no e = true≢false (ap is_some e)
none_is false n h = refl

line_at : (t : List ℕ) (i : ℕ) → position ends_line t ≡ Some i → IsOneLine (take i t) × (t ≡ take i t ++ 10 ∷ drop (i + 1) t)
line_at t i h = by (some_is _ _ i h)
  where
    next : (k : ℕ) → k + 1 ≡ suc k
    next k = omega arith

    by : (nat_lt (place t) (length t) ≡ true) × (place t ≡ i) → IsOneLine (take i t) × (t ≡ take i t ++ 10 ∷ drop (i + 1) t)
    by p = rw (sym p.1, next (place t)) (prefix t, parted t p.0)

no_line : (t : List ℕ) → position ends_line t ≡ None → IsOneLine t
no_line t h = whole t (none_is _ _ h)

-- what a text is where it is cut once at a line feed
pub cut : {A : Type 0} (f : A → List ℕ × List ℕ) (found : Option A) (t : List ℕ) → option_map f found ≡ split_once 10 t
    → MatchOption found (IsOneLine t) (λ a. IsOneLine (f a).0 × (t ≡ (f a).0 ++ 10 ∷ (f a).1))
cut {A} f found t e = by (position ends_line t) refl found e
  where
    by : (at : Option ℕ) → position ends_line t ≡ at → (found : Option A)
        → option_map f found ≡ option_map (λ i. (take i t, drop (i + 1) t)) at
        → MatchOption found (IsOneLine t) (λ a. IsOneLine (f a).0 × (t ≡ (f a).0 ++ 10 ∷ (f a).1))
    by None h None e = no_line t h
    by None h (Some a) e = absurd cc
    by (Some i) h None e = absurd cc
    by (Some i) h (Some a) e =
        let same : f a ≡ (take i t, drop (i + 1) t) = cc in
        rw same (line_at t i h)
