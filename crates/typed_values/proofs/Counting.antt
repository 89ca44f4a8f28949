-- How many members are new, and how many go.
use Rattle.std.proofs.Common.{◌≡◌, ℕ, ◌+◌, ◌<◌, ◌≤◌, Bool, true, false, cond, not, ◌||◌, ◌&&◌, List, [], ◌∷◌, ◌++◌, length, take, get_or, refl, sym, ap, ◌∙◌, arith, length-append}
use Rattle.std.specs.List.{IsDistinct, AllByRecursion}
use Rattle.std.proofs.lemmas.List.Folds.{list_any-append}
use Rattle.std.proofs.lemmas.List.Sums.{fold_more}
use Rattle.typed_values.specs.Fields.{same_bytes}
use Rattle.typed_values.specs.Members.{has, with_member, members_with, without_member, members_without, HasDistinctMembers}
use Rattle.typed_values.proofs.Spellings.{same-true, same-self}

or-false : (a : Bool) → (a || false) ≡ a
or-false true = refl
or-false false = refl

or-held : (a b : Bool) → a ≡ true → a ≡ (a || b)
or-held true b e = refl
or-held false b e = cc

or-assoc : (a b c : Bool) → ((a || b) || c) ≡ (a || (b || c))
or-assoc true b c = refl
or-assoc false b c = refl

and-true : (a : Bool) → a ≡ (a && true)
and-true true = refl
and-true false = refl

and-not-or : (a b c : Bool) → ((a && not b) && not c) ≡ (a && not (b || c))
and-not-or true true c = refl
and-not-or true false c = refl
and-not-or false b c = refl

-- texts that differ from x differ from one that is equal to x
differs : (q m x : List ℕ) → same_bytes q x ≡ false → m ≡ x → same_bytes q m ≡ false
differs q m x e s = ap (same_bytes q) s ∙ e

has-alike : (ms : List (List ℕ)) (q m : List ℕ) → q ≡ m → has ms q ≡ has ms m
has-alike ms q m e = ap (has ms) e

pub length-with_member : (ms : List (List ℕ)) (m : List ℕ) → length (with_member ms m) ≡ length ms + cond (has ms m) 0 1
length-with_member ms m =
    elim (has ms m) as (λ b. length (cond b ms (ms ++ m ∷ [])) ≡ length ms + cond b 0 1)
    [ true ↦ omega arith | false ↦ length-append ms (m ∷ []) ]

with-known : (ms : List (List ℕ)) (m q : List ℕ) → has ms m ≡ true → (b : Bool) → same_bytes q m ≡ b → has ms q ≡ (has ms q || b)
with-known ms m q h true e = or-held (has ms q) true (has-alike ms q m (same-true q m e) ∙ h)
with-known ms m q h false e = sym (or-false (has ms q))

with-chosen : (ms : List (List ℕ)) (m q : List ℕ) (b : Bool) → has ms m ≡ b → has (cond b ms (ms ++ m ∷ [])) q ≡ (has ms q || same_bytes q m)
with-chosen ms m q true h = with-known ms m q h (same_bytes q m) refl
with-chosen ms m q false h = list_any-append (same_bytes q) ms (m ∷ []) ∙ ap (λ b. has ms q || b) (or-false (same_bytes q m))

pub has-with_member : (ms : List (List ℕ)) (m q : List ℕ) → has (with_member ms m) q ≡ (has ms q || same_bytes q m)
has-with_member ms m q = with-chosen ms m q (has ms m) refl

pub has-members_with : (ms xs : List (List ℕ)) (q : List ℕ) → has (members_with ms xs) q ≡ (has ms q || has xs q)
has-members_with ms [] q = sym (or-false (has ms q))
has-members_with ms (x ∷ xs) q =
    has-members_with (with_member ms x) xs q
    ∙ ap (λ b. b || has xs q) (has-with_member ms x q)
    ∙ or-assoc (has ms q) (same_bytes q x) (has xs q)

-- one text more: it is new where neither the set nor the texts before it have it
pub one_more : (ms xs : List (List ℕ)) (i : ℕ) (d : List ℕ) → i < length xs → length (members_with ms (take (i + 1) xs)) ≡ length (members_with ms (take i xs)) + cond (has ms (get_or xs i d) || has (take i xs) (get_or xs i d)) 0 1
one_more ms xs i d h =
    ap length (fold_more with_member ms xs i d h)
    ∙ length-with_member (members_with ms (take i xs)) (get_or xs i d)
    ∙ ap (λ b. length (members_with ms (take i xs)) + cond b 0 1) (has-members_with ms (take i xs) (get_or xs i d))

pub apart-has : (x : List ℕ) (ms : List (List ℕ)) → AllByRecursion (λ b. same_bytes x b ≡ false) ms → has ms x ≡ false
apart-has x [] h = refl
apart-has x (m ∷ ms) h = ap (λ b. b || has ms x) h.0 ∙ apart-has x ms h.1

pub all-without_member : (P : List ℕ → Type 0) (ms : List (List ℕ)) (m : List ℕ) → AllByRecursion P ms → AllByRecursion P (without_member ms m)
all-without_member P [] m h = tt
all-without_member P (x ∷ ms) m h =
    elim (same_bytes m x) as (λ b. AllByRecursion P (cond b ms (x ∷ without_member ms m)))
    [ true ↦ h.1 | false ↦ (h.0, all-without_member P ms m h.1) ]

pub distinct-without_member : (ms : List (List ℕ)) (m : List ℕ) → HasDistinctMembers ms → HasDistinctMembers (without_member ms m)
unfolding IsDistinct
distinct-without_member [] m h = tt
distinct-without_member (x ∷ ms) m h =
    elim (same_bytes m x) as (λ b. IsDistinct same_bytes (cond b ms (x ∷ without_member ms m)))
    [ true ↦ h.1 | false ↦ (all-without_member (λ b. same_bytes x b ≡ false) ms m h.0, distinct-without_member ms m h.1) ]

pub length-without_member : (ms : List (List ℕ)) (m : List ℕ) → length (without_member ms m) + cond (has ms m) 1 0 ≡ length ms
length-without_member [] m = omega arith
length-without_member (x ∷ ms) m =
    elim (same_bytes m x) as (λ b. length (cond b ms (x ∷ without_member ms m)) + cond (b || has ms m) 1 0 ≡ suc_length)
    [ true ↦ omega arith | false ↦ omega (arith, length-without_member ms m) ]
  where
    suc_length : ℕ
    suc_length = length (x ∷ ms)

-- at a first text x that is the one removed, and is not there again
gone : (ms : List (List ℕ)) (m q x : List ℕ) → has ms x ≡ false → m ≡ x → (b : Bool) → same_bytes q x ≡ b → has ms q ≡ ((b || has ms q) && not (same_bytes q m))
gone ms m q x h e true s =
    has-alike ms q x (same-true q x s) ∙ h ∙ sym (ap not (same-self q m (same-true q x s ∙ sym e)))
gone ms m q x h e false s = and-true (has ms q) ∙ ap (λ b. has ms q && not b) (sym (differs q m x s e))

kept : (rest ms : List (List ℕ)) (m q x : List ℕ) → has rest q ≡ (has ms q && not (same_bytes q m)) → same_bytes m x ≡ false → (b : Bool) → same_bytes q x ≡ b → (b || has rest q) ≡ ((b || has ms q) && not (same_bytes q m))
kept rest ms m q x h e true s = sym (ap not (other (same_bytes q m) refl))
  where
    other : (b : Bool) → same_bytes q m ≡ b → b ≡ false
    other false f = refl
    other true f = let t = same-self m x (sym (same-true q m f) ∙ same-true q x s) in cc
kept rest ms m q x h e false s = h

pub has-without_member : (ms : List (List ℕ)) (m q : List ℕ) → HasDistinctMembers ms → has (without_member ms m) q ≡ (has ms q && not (same_bytes q m))
unfolding IsDistinct
has-without_member [] m q h = refl
has-without_member (x ∷ ms) m q h = chosen (has-without_member ms m q h.1) (same_bytes m x) refl
  where
    chosen : has (without_member ms m) q ≡ (has ms q && not (same_bytes q m)) → (b : Bool) → same_bytes m x ≡ b → has (cond b ms (x ∷ without_member ms m)) q ≡ ((same_bytes q x || has ms q) && not (same_bytes q m))
    chosen rest true e = gone ms m q x (apart-has x ms h.0) (same-true m x e) (same_bytes q x) refl
    chosen rest false e = kept (without_member ms m) ms m q x rest e (same_bytes q x) refl

pub has-members_without : (ms xs : List (List ℕ)) (q : List ℕ) → HasDistinctMembers ms → has (members_without ms xs) q ≡ (has ms q && not (has xs q))
has-members_without ms [] q h = and-true (has ms q)
has-members_without ms (x ∷ xs) q h =
    has-members_without (without_member ms x) xs q (distinct-without_member ms x h)
    ∙ ap (λ b. b && not (has xs q)) (has-without_member ms x q h)
    ∙ and-not-or (has ms q) (same_bytes q x) (has xs q)

-- one text more: it goes where the set has it and the texts before it have not
pub one_less : (ms xs : List (List ℕ)) (i : ℕ) (d : List ℕ) → HasDistinctMembers ms → i < length xs → length (members_without ms (take (i + 1) xs)) + cond (has ms (get_or xs i d) && not (has (take i xs) (get_or xs i d))) 1 0 ≡ length (members_without ms (take i xs))
one_less ms xs i d distinct h =
    ap (λ n. n + cond b 1 0) (ap length (fold_more without_member ms xs i d h))
    ∙ ap (λ c. length (without_member now x) + cond c 1 0) (sym (has-members_without ms (take i xs) x distinct))
    ∙ length-without_member now x
  where
    x : List ℕ
    x = get_or xs i d

    now : List (List ℕ)
    now = members_without ms (take i xs)

    b : Bool
    b = has ms x && not (has (take i xs) x)

pub from_more : (n l a b : ℕ) (c : Bool) → n + l ≡ a → b ≡ a + cond c 0 1 → n + cond (not c) 1 0 + l ≡ b
from_more n l a b true e f = omega arith
from_more n l a b false e f = omega arith

pub counted_more : (ms xs : List (List ℕ)) (i n : ℕ) → i < length xs → n + length ms ≡ length (members_with ms (take i xs)) → n + cond (not (has ms (get_or xs i []) || has (take i xs) (get_or xs i []))) 1 0 + length ms ≡ length (members_with ms (take (i + 1) xs))
counted_more ms xs i n h e = from_more n (length ms) _ _ (has ms (get_or xs i []) || has (take i xs) (get_or xs i [])) e (one_more ms xs i [] h)

pub from_less : (n l a b m : ℕ) → n + a ≡ l → b + m ≡ a → n + m + b ≡ l
from_less n l a b m e f = omega arith

pub counted_less : (ms xs : List (List ℕ)) (i n : ℕ) → HasDistinctMembers ms → i < length xs → n + length (members_without ms (take i xs)) ≡ length ms → n + cond (has ms (get_or xs i []) && not (has (take i xs) (get_or xs i []))) 1 0 + length (members_without ms (take (i + 1) xs)) ≡ length ms
counted_less ms xs i n distinct h e = from_less n (length ms) _ _ (cond (has ms (get_or xs i []) && not (has (take i xs) (get_or xs i []))) 1 0) e (one_less ms xs i [] distinct h)

-- one or none of a further place
pub at_most_one : (n i : ℕ) (b : Bool) → n ≤ i → n + cond b 1 0 ≤ i + 1
at_most_one n i true h = omega arith
at_most_one n i false h = omega arith
