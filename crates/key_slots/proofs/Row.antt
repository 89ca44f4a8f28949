-- Owners as the starts of their ranges.
use Rattle.std.proofs.Common.{◌≡◌, ◌≢◌, ℕ, zero, suc, ◌+◌, ◌-◌, ◌<◌, ◌≤◌, inl, inr, Bool, true, false, cond, List, [], ◌∷◌, ◌++◌, length, get_or, set, map, replicate, take, drop, Option, None, Some, nat_eq, nat_lt, IsTrue, ◌↔◌, ◌&&◌, ap, refl, sym, subst, ◌∙◌, arith, append_assoc, length-append, length-set}
use Rattle.std.proofs.lemmas.Bool.Decides.{nat_tests}
use Rattle.std.specs.List.{AllByRecursion, AllWithin}
use Rattle.std.specs.List.Sorted.{IsPartitionedBy}
use Rattle.std.proofs.lemmas.Bool.{cases_lt}
use Rattle.key_slots.specs.Ranges.{in_front, owner_ranges, ranges_from, start_of, starts_of}
use Rattle.std.proofs.lemmas.List.Elements.{All-set}
use Rattle.key_slots.specs.Owners.{IsTable, Owners, start}
use Rattle.std.specs.List.{All}
use Rattle.key_slots.proofs.Split.{SharesBelow, all, more, none, start-lt}
use Rattle.std.specs.Cmp.Lexicographic.{pointwise}
use Rattle.key_slots.specs.Starts.{Below, IsRow, From, IsAround, IsNotPast, IsPlace, between, is_owner, next_first, owner_before, owner_in, owners_by, owners_from, start_unless, starts_after}

abbrev pub last_owner : Option ℕ → List ℕ → Option ℕ
last_owner p [] = p
last_owner p (o ∷ os) = last_owner (Some o) os

pub starts-append : (p : Option ℕ) (i : ℕ) (xs ys : List ℕ) → starts_after p i (xs ++ ys) ≡ starts_after p i xs ++ starts_after (last_owner p xs) (length xs + i) ys
starts-append p i [] ys = let at : i ≡ 0 + i = omega arith in ap (λ j. starts_after p j ys) at
starts-append p i (x ∷ xs) ys =
    ap (λ l. start_unless (is_owner p x) i x ++ l) (starts-append (Some x) (suc i) xs ys ∙ ap (λ j. starts_after (Some x) (suc i) xs ++ starts_after (last_owner (Some x) xs) j ys) (shift (length xs) i))
    ∙ sym (append_assoc (start_unless (is_owner p x) i x) (starts_after (Some x) (suc i) xs) (starts_after (last_owner (Some x) xs) (suc (length xs) + i) ys))
  where
    shift : (n i : ℕ) → n + suc i ≡ suc n + i
    shift n i = omega arith

all-append : (P : ℕ × ℕ → Type 0) (xs ys : List (ℕ × ℕ)) → AllByRecursion P xs → AllByRecursion P ys → AllByRecursion P (xs ++ ys)
all-append P [] ys a b = b
all-append P (x ∷ xs) ys a b = (a.0, all-append P xs ys a.1 b)

pub below-append : (s : ℕ) (xs ys : List (ℕ × ℕ)) → Below s xs → Below s ys → Below s (xs ++ ys)
below-append s = all-append (λ e. e.0 < s)

pub unless-below : (b : Bool) (i o s : ℕ) → i < s → Below s (start_unless b i o)
unless-below true i o s h = tt
unless-below false i o s h = (h, tt)

unless-from : (b : Bool) (i o s : ℕ) → s ≤ i → From s (start_unless b i o)
unless-from true i o s h = tt
unless-from false i o s h = (h, tt)

pub starts-below : (p : Option ℕ) (i s : ℕ) (xs : List ℕ) → length xs + i ≤ s → Below s (starts_after p i xs)
starts-below p i s [] h = tt
starts-below p i s (x ∷ xs) h =
    let first : i < s = omega arith in
    let later : length xs + suc i ≤ s = omega arith in
    all-append (λ e. e.0 < s) (start_unless (is_owner p x) i x) _ (unless-below _ i x s first) (starts-below (Some x) (suc i) s xs later)

pub starts-from : (p : Option ℕ) (i s : ℕ) (xs : List ℕ) → s ≤ i → From s (starts_after p i xs)
starts-from p i s [] h = tt
starts-from p i s (x ∷ xs) h =
    let later : s ≤ suc i = omega arith in
    all-append (λ e. s ≤ e.0) (start_unless (is_owner p x) i x) _ (unless-from _ i x s h) (starts-from (Some x) (suc i) s xs later)

pub unless-length : (b : Bool) (i o : ℕ) → length (start_unless b i o) ≤ 1
unless-length true i o = omega arith
unless-length false i o = omega arith

pub starts-length : (p : Option ℕ) (i : ℕ) (xs : List ℕ) → length (starts_after p i xs) ≤ length xs
starts-length p i [] = omega arith
starts-length p i (x ∷ xs) = omega (arith, length-append (start_unless (is_owner p x) i x) (starts_after (Some x) (suc i) xs), unless-length (is_owner p x) i x, starts-length (Some x) (suc i) xs)

-- OWNERS FROM STARTS

same_owner : (a b : ℕ) → nat_eq a b ≡ true → a ≡ b
same_owner a b e = grind (arith, nat_tests)

is_below : (a b : ℕ) → a < b → nat_lt a b ≡ true
is_below a b e = grind (arith, nat_tests)

not_below : (a b : ℕ) → b ≤ a → nat_lt a b ≡ false
not_below a b e = grind (arith, nat_tests)

cond_true : (b : Bool) (x y : ℕ) → b ≡ true → cond b x y ≡ x
cond_true true x y e = refl
cond_true false x y e = cc

cond_false : (b : Bool) (x y : ℕ) → b ≡ false → cond b x y ≡ y
cond_false true x y e = cc
cond_false false x y e = refl

-- before its first start
first_not_reached : (d s : ℕ) (es : List (ℕ × ℕ)) → From (suc s) es → owner_in d es s ≡ d
first_not_reached d s [] h = refl
first_not_reached d s (e ∷ es) h = cond_true _ _ _ (is_below s e.0 h.0)

or_zero : Option ℕ → ℕ
or_zero None = 0
or_zero (Some o) = o

-- at a slot, after its own start, if it has one
at_first : (p : Option ℕ) (o i : ℕ) (b : Bool) (es : List (ℕ × ℕ)) → is_owner p o ≡ b → From (suc i) es → owner_in (or_zero p) (start_unless b i o ++ es) i ≡ o
unfolding or_zero
at_first None o i true es e h = cc
at_first (Some p) o i true es e h = first_not_reached p i es h ∙ same_owner p o e
at_first p o i false es e h = cond_false _ _ _ (not_below i i (omega arith)) ∙ first_not_reached o i es h

at_later : (p : Option ℕ) (o i s : ℕ) (b : Bool) (es : List (ℕ × ℕ)) → is_owner p o ≡ b → i ≤ s → owner_in (or_zero p) (start_unless b i o ++ es) s ≡ owner_in o es s
unfolding or_zero
at_later None o i s true es e h = cc
at_later (Some p) o i s true es e h = ap (λ q. owner_in q es s) (same_owner p o e)
at_later p o i s false es e h = cond_false _ _ _ (not_below s i h)

owner-starts : (p : Option ℕ) (i : ℕ) (os : List ℕ) (k : ℕ) → k < length os → owner_in (or_zero p) (starts_after p i os) (k + i) ≡ get_or os k 0
unfolding or_zero
owner-starts p i [] k h = absurd (omega arith)
owner-starts p i (o ∷ os) zero h =
    let at : 0 + i ≡ i = omega arith in
    ap (owner_in (or_zero p) (starts_after p i (o ∷ os))) at
    ∙ at_first p o i _ (starts_after (Some o) (suc i) os) refl (starts-from (Some o) (suc i) (suc i) os (omega arith))
owner-starts p i (o ∷ os) (suc k) h =
    let on : i ≤ suc k + i = omega arith in
    let at : suc k + i ≡ k + suc i = omega arith in
    at_later p o i (suc k + i) _ (starts_after (Some o) (suc i) os) refl on
    ∙ ap (owner_in o (starts_after (Some o) (suc i) os)) at
    ∙ owner-starts (Some o) (suc i) os k (omega arith)

owners_are : (os : List ℕ) (i : ℕ) (es : List (ℕ × ℕ)) → ((k : ℕ) → k < length os → owner_in 0 es (k + i) ≡ get_or os k 0) → owners_from (length os) i es ≡ os
owners_are [] i es h = refl
owners_are (o ∷ os) i es h =
    let at : i ≡ 0 + i = omega arith in
    let here : owner_in 0 es i ≡ o = ap (owner_in 0 es) at ∙ h 0 (omega arith) in
    let later : owners_from (length os) (suc i) es ≡ os = owners_are os (suc i) es (λ k lt.
    let next : k + suc i ≡ suc k + i = omega arith in
    ap (owner_in 0 es) next ∙ h (suc k) (omega arith)) in
    λ t. here t ∷ later t

zero_end : (k : ℕ) → k + 0 ≡ k
zero_end k = omega arith

pub owners-starts : (os : List ℕ) → length os ≡ 16384 → owners_by (starts_after None 0 os) ≡ os
unfolding owners_by or_zero
owners-starts os len =
    ap (λ n. owners_from n 0 (starts_after None 0 os)) (sym len)
    ∙ owners_are os 0 (starts_after None 0 os) (λ k h. owner-starts None 0 os k h)

-- RANGES FROM STARTS

pub between-starts : (end : ℕ) (es : List (ℕ × ℕ)) → map start_of (between end es) ≡ es
between-starts end [] = refl
between-starts end (e ∷ es) = ap (λ l. e ∷ l) (between-starts end es)

joined : (i o o' : ℕ) (end : ℕ) (es : List (ℕ × ℕ)) (b : Bool) → nat_eq o o' ≡ b
    → between end ((i, o) ∷ (start_unless b (suc i) o' ++ es)) ≡ in_front (record { first = i; last = i; owner = o }) (between end ((suc i, o') ∷ es))
joined i o o' end es true e =
    sym (ap (λ b. cond b (record { first = i; last = next_first end es - 1; owner = o } ∷ between end es) (record { first = i; last = i; owner = o } ∷ between end ((suc i, o') ∷ es))) e)
joined i o o' end es false e =
    let one : suc i - 1 ≡ i = omega arith in
    ap (λ l. record { first = i; last = l; owner = o } ∷ between end ((suc i, o') ∷ es)) one
    ∙ sym (ap (λ b. cond b (record { first = i; last = next_first end es - 1; owner = o } ∷ between end es) (record { first = i; last = i; owner = o } ∷ between end ((suc i, o') ∷ es))) e)

next_is : (i : ℕ) → suc i ≡ i + 1
next_is i = omega arith

ranges-between : (i o : ℕ) (os : List ℕ) (end : ℕ) → end ≡ length os + suc i → between end ((i, o) ∷ starts_after (Some o) (suc i) os) ≡ ranges_from i (o ∷ os)
ranges-between i o [] end e = let last : end - 1 ≡ i = omega arith in ap (λ l. record { first = i; last = l; owner = o } ∷ []) last
ranges-between i o (o' ∷ os) end e =
    joined i o o' end (starts_after (Some o') (suc (suc i)) os) _ refl
    ∙ ap (in_front (record { first = i; last = i; owner = o })) (ranges-between (suc i) o' os end (omega arith))
    ∙ ap (λ j. in_front (record { first = i; last = i; owner = o }) (ranges_from j (o' ∷ os))) (next_is i)

pub ranges-starts : (os : List ℕ) (end : ℕ) → end ≡ length os → between end (starts_after None 0 os) ≡ owner_ranges os
unfolding owner_ranges
ranges-starts [] end e = refl
ranges-starts (o ∷ os) end e = ranges-between 0 o os end (omega arith)

pub starts-are : (os : List ℕ) → starts_of os ≡ starts_after None 0 os
starts-are os = ap (map start_of) (sym (ranges-starts os (length os) refl)) ∙ between-starts (length os) (starts_after None 0 os)

-- PLACES

at_left : (s : ℕ) (l r : List (ℕ × ℕ)) (k : ℕ) (d : ℕ × ℕ) → Below s l → k < length l → nat_lt (get_or (l ++ r) k d).0 s ≡ true
at_left s [] r k d h lt = absurd (omega arith)
at_left s (e ∷ l) r zero d h lt = is_below e.0 s h.0
at_left s (e ∷ l) r (suc k) d h lt = at_left s l r k d h.1 (omega arith)

at_right : (s : ℕ) (l r : List (ℕ × ℕ)) (k : ℕ) (d : ℕ × ℕ) → From s r → length l ≤ k → k < length (l ++ r) → nat_lt (get_or (l ++ r) k d).0 s ≡ false
at_right s [] [] k d h le lt = absurd (omega arith)
at_right s [] (e ∷ r) zero d h le lt = not_below e.0 s h.0
at_right s [] (e ∷ r) (suc k) d h le lt = at_right s [] r k d h.1 (omega arith) (omega arith)
at_right s (e ∷ l) r zero d h le lt = absurd (omega arith)
at_right s (e ∷ l) r (suc k) d h le lt = at_right s l r k d h (omega arith) (omega arith)

not_both : (b : Bool) → b ≡ true → b ≡ false → {A : Type 0} → A
not_both true e f = cc
not_both false e f = cc

abbrev pub starts_before : ℕ → ℕ × ℕ → Bool
starts_before s e = nat_lt e.0 s

pub is_partitioned : (s : ℕ) (l r : List (ℕ × ℕ)) → Below s l → From s r → IsPartitionedBy (starts_before s) (l ++ r)
is_partitioned s l r a b i j d le lt e = elim (cases_lt i (length l)) [
  | inl left ↦ at_left s l r i d a left
  | inr right ↦ not_both _ e (at_right s l r j d b (omega arith) lt)
]

pub place_is : (s : ℕ) (l r : List (ℕ × ℕ)) (k : ℕ) → Below s l → From s r → k ≤ length (l ++ r)
    → AllWithin (λ e. starts_before s e ≡ true) (l ++ r) 0 k → AllWithin (λ e. starts_before s e ≡ false) (l ++ r) k (length (l ++ r)) → k ≡ length l
place_is s l r k a b le before after = elim (cases_lt k (length l)) [
  | inl low ↦ not_both _ (at_left s l r k (0, 0) a low) (after k (0, 0) (omega arith) (omega (arith, length-append l r)))
  | inr high ↦ elim (cases_lt (length l) k) [
    | inl over ↦ not_both _ (before (length l) (0, 0) (omega arith) over) (at_right s l r (length l) (0, 0) b (omega arith) (omega arith))
    | inr same ↦ omega arith
  ]
]

pub all-mono : (s t : ℕ) → s ≤ t → (r : List (ℕ × ℕ)) → From t r → From s r
all-mono s t h [] a = tt
all-mono s t h (e ∷ r) a = let first : t ≤ e.0 = a.0 in (omega arith, all-mono s t h r a.1)

-- the start of the slot itself
abbrev pub at_slot : (b : Bool) (s o : ℕ) (r : List (ℕ × ℕ)) → From (suc s) r → From s (start_unless b s o ++ r)
at_slot true s o r h = all-mono s (suc s) (omega arith) r h
at_slot false s o r h = (omega arith, all-mono s (suc s) (omega arith) r h)

pub take_left : (l r : List (ℕ × ℕ)) → take (length l) (l ++ r) ≡ l
take_left [] r = refl
take_left (e ∷ l) r = ap (λ t. e ∷ t) (take_left l r)

pub drop_left : (l r : List (ℕ × ℕ)) → drop (length l) (l ++ r) ≡ r
drop_left [] r = refl
drop_left (e ∷ l) r = drop_left l r

pub insert_middle : (l r : List (ℕ × ℕ)) (e : ℕ × ℕ) → take (length l) (l ++ r) ++ (e ∷ drop (length l) (l ++ r)) ≡ l ++ (e ∷ r)
insert_middle [] r e = refl
insert_middle (f ∷ l) r e = ap (λ t. f ∷ t) (insert_middle l r e)

pub remove_middle : (l r : List (ℕ × ℕ)) (e : ℕ × ℕ) → take (length l) (l ++ (e ∷ r)) ++ drop (suc (length l)) (l ++ (e ∷ r)) ≡ l ++ r
remove_middle [] r e = refl
remove_middle (f ∷ l) r e = ap (λ t. f ∷ t) (remove_middle l r e)

-- what is found at the place tells whether the slot has a start
pub found_there : (s o : ℕ) (b : Bool) (l r : List (ℕ × ℕ)) (d : ℕ × ℕ) → From (suc s) r → (get_or (l ++ (start_unless b s o ++ r)) (length l) d).0 ≡ s → length l < length (l ++ (start_unless b s o ++ r)) → b ≡ false
found_there s o false l r d h e lt = refl
found_there s o true (f ∷ l) r d h e lt = found_there s o true l r d h e (omega arith)
found_there s o true [] [] d h e lt = absurd (omega arith)
found_there s o true [] (f ∷ r) d h e lt = let a : suc s ≤ f.0 = h.0 in absurd (omega arith)

not_found : (s o : ℕ) (b : Bool) (l r : List (ℕ × ℕ)) (d : ℕ × ℕ) → (length l < length (l ++ (start_unless b s o ++ r)) → (get_or (l ++ (start_unless b s o ++ r)) (length l) d).0 ≢ s) → b ≡ true
not_found s o true l r d h = refl
not_found s o false (f ∷ l) r d h = not_found s o false l r d (λ lt. h (omega arith))
not_found s o false [] r d h = absurd (h (omega arith) refl)

removed_middle : (s o : ℕ) (b : Bool) (l r : List (ℕ × ℕ)) → b ≡ false → take (length l) (l ++ (start_unless b s o ++ r)) ++ drop (suc (length l)) (l ++ (start_unless b s o ++ r)) ≡ l ++ r
removed_middle s o true l r e = cc
removed_middle s o false l r e = remove_middle l r (s, o)

kept_middle : (s o : ℕ) (b : Bool) (l r : List (ℕ × ℕ)) → b ≡ true → l ++ (start_unless b s o ++ r) ≡ l ++ r
kept_middle s o true l r e = refl
kept_middle s o false l r e = cc

pub removed : (s o : ℕ) (b : Bool) (l r items items' : List (ℕ × ℕ)) (k : ℕ) (d : ℕ × ℕ) → IsAround s o b l r items → k ≡ length l
    → (get_or items k d).0 ≡ s → k < length items → items' ≡ take k items ++ drop (suc k) items → items' ≡ l ++ r
removed s o b l r items items' k d a p e lt is =
    subst (λ j. (get_or items j d).0 ≡ s → j < length items → items' ≡ take j items ++ drop (suc j) items → items' ≡ l ++ r) (sym p)
    (subst (λ it. (get_or it (length l) d).0 ≡ s → length l < length it → items' ≡ take (length l) it ++ drop (suc (length l)) it → items' ≡ l ++ r) (sym a.whole)
    (λ e lt is. is ∙ removed_middle s o b l r (found_there s o b l r d a.above e lt)))
    e lt is

pub kept : (s o : ℕ) (b : Bool) (l r items : List (ℕ × ℕ)) (k : ℕ) (d : ℕ × ℕ) → IsAround s o b l r items → k ≡ length l
    → (k < length items → (get_or items k d).0 ≢ s) → items ≡ l ++ r
kept s o b l r items k d a p h =
    a.whole ∙ kept_middle s o b l r (not_found s o b l r d
    (subst (λ it. length l < length it → (get_or it (length l) d).0 ≢ s) a.whole
    (subst (λ j. j < length items → (get_or items j d).0 ≢ s) p h)))

pub place_around : (s t o : ℕ) (b : Bool) (l r items : List (ℕ × ℕ)) (k : ℕ) → IsAround s o b l r items → t ≡ s
    → ((l r : List (ℕ × ℕ)) → items ≡ l ++ r → Below t l → From t r → k ≡ length l) → k ≡ length l
place_around s t o b l r items k a e h = subst (λ n. (l r : List (ℕ × ℕ)) → items ≡ l ++ r → Below n l → From n r → k ≡ length l) e h l (start_unless b s o ++ r) a.whole a.below (at_slot b s o r a.above)

below_more : (s t : ℕ) → s ≤ t → (l : List (ℕ × ℕ)) → Below s l → Below t l
below_more s t h [] a = tt
below_more s t h (e ∷ l) a = let first : e.0 < s = a.0 in (omega arith, below_more s t h l a.1)

-- so many starts, the first ones, are below the number
pub record Heads (s k : ℕ) (items : List (ℕ × ℕ)) : Type 0 where
  pub before : List (ℕ × ℕ)
  pub after : List (ℕ × ℕ)
  pub whole : items ≡ before ++ after
  pub below : Below s before
  pub at : k ≡ length before

pub heads_within : (s k : ℕ) (items : List (ℕ × ℕ)) → Heads s k items → k ≤ length items
heads_within s k items h =
    let long : length items ≡ length (h.before ++ h.after) = ap length h.whole in
    let at : k ≡ length h.before = h.at in
    omega (arith, length-append h.before h.after)

pub heads_early : (s t k : ℕ) (items : List (ℕ × ℕ)) → s ≤ t → Heads s k items → IsNotPast t items k
heads_early s t k items le h l r whole below above =
    let at : k ≡ length h.before = h.at in
    let long : length (h.before ++ h.after) ≡ length (l ++ r) = ap length (sym h.whole ∙ whole) in
    elim (cases_lt (length l) k) [
      | inl short ↦ not_both _ (at_left t h.before h.after (length l) (0, 0) (below_more s t le h.before h.below) (omega arith))
          (ap (λ (it : List (ℕ × ℕ)). nat_lt (get_or it (length l) (0, 0)).0 t) (sym h.whole ∙ whole) ∙ at_right t l r (length l) (0, 0) above (omega arith) (omega (arith, length-append h.before h.after)))
      | inr enough ↦ enough
    ]

-- ONE SLOT'S OWNER CHANGES

pub record Parts (os : List ℕ) (s : ℕ) : Type 0 where
  pub prefix : List ℕ
  pub owner : ℕ
  pub rest : List ℕ
  pub whole : os ≡ prefix ++ (owner ∷ rest)
  pub place : length prefix ≡ s

pub parts : (os : List ℕ) (s : ℕ) → s < length os → Parts os s
parts [] s h = absurd (omega arith)
parts (o ∷ os) zero h = record { prefix = []; owner = o; rest = os; whole = refl; place = refl }
parts (o ∷ os) (suc s) h =
    let p = parts os s (omega arith) in
    record { prefix = o ∷ p.prefix; owner = p.owner; rest = p.rest; whole = ap (λ l. o ∷ l) p.whole; place = ap suc p.place }

pub set_middle : (a b : List ℕ) (o n : ℕ) → set (a ++ (o ∷ b)) (length a) n ≡ a ++ (n ∷ b)
set_middle [] b o n = refl
set_middle (x ∷ a) b o n = ap (λ l. x ∷ l) (set_middle a b o n)

pub get_middle : (a b : List ℕ) (o d : ℕ) → get_or (a ++ (o ∷ b)) (length a) d ≡ o
get_middle [] b o d = refl
get_middle (x ∷ a) b o d = get_middle a b o d

last_got : (p : Option ℕ) (x : ℕ) (a b : List ℕ) → last_owner p (x ∷ a) ≡ Some (get_or ((x ∷ a) ++ b) (length a) 0)
last_got p x [] b = refl
last_got p x (y ∷ a) b = last_got (Some x) y a b

pub last_before : (a b : List ℕ) → last_owner None a ≡ owner_before (a ++ b) (length a)
last_before [] b = refl
last_before (x ∷ a) b = last_got None x a b

-- all but one start, as the slot's own owner leaves them
cut : (a b : List ℕ) (s o : ℕ) → length a ≡ s → starts_after None 0 (a ++ (o ∷ b)) ≡ starts_after None 0 a ++ (start_unless (is_owner (last_owner None a) o) s o ++ starts_after (Some o) (suc s) b)
cut a b s o e =
    let at : length a + 0 ≡ s = omega arith in
    starts-append None 0 a (o ∷ b) ∙ ap (λ j. starts_after None 0 a ++ starts_after (last_owner None a) j (o ∷ b)) at

around : (a b : List ℕ) (s o : ℕ) → length a ≡ s → IsAround s o (is_owner (last_owner None a) o) (starts_after None 0 a) (starts_after (Some o) (suc s) b) (starts_after None 0 (a ++ (o ∷ b)))
around a b s o e = record {
  whole = cut a b s o e;
  below = starts-below None 0 s a (omega arith);
  above = starts-from (Some o) (suc s) (suc s) b (omega arith);
}

around_next : (a b : List ℕ) (s n o o' : ℕ) (j : Bool) → length a ≡ s
    → IsAround (suc s) o' (nat_eq o o') (starts_after None 0 a ++ start_unless j s n) (starts_after (Some o') (suc (suc s)) b) (starts_after None 0 a ++ (start_unless j s n ++ starts_after (Some o) (suc s) (o' ∷ b)))
around_next a b s n o o' j e = record {
  whole = sym (append_assoc (starts_after None 0 a) (start_unless j s n) (starts_after (Some o) (suc s) (o' ∷ b)));
  below = below-append (suc s) (starts_after None 0 a) (start_unless j s n) (starts-below None 0 (suc s) a (omega arith)) (unless-below j s n (suc s) (omega arith));
  above = starts-from (Some o') (suc (suc s)) (suc (suc s)) b (omega arith);
}

-- what `put_start_at` promises
abbrev pub Puts : ℕ → ℕ → Bool → ℕ → List (ℕ × ℕ) → List (ℕ × ℕ) → Type 0
Puts s n j cap items items' =
    (l r : List (ℕ × ℕ)) (joined : Bool) (o : ℕ) → IsAround s o joined l r items → length l + length r < cap → items' ≡ l ++ (start_unless j s n ++ r)

put_first : (a b : List ℕ) (s n o : ℕ) (cap : ℕ) (items : List (ℕ × ℕ)) → length a ≡ s → s + suc (length b) ≤ cap
    → Puts s n (is_owner (last_owner None a) n) cap (starts_after None 0 (a ++ (o ∷ b))) items
    → items ≡ starts_after None 0 a ++ (start_unless (is_owner (last_owner None a) n) s n ++ starts_after (Some o) (suc s) b)
put_first a b s n o cap items e room puts =
    puts (starts_after None 0 a) (starts_after (Some o) (suc s) b) _ o (around a b s o e)
    (omega (arith, starts-length None 0 a, starts-length (Some o) (suc s) b))

put_alone : (a : List ℕ) (s n o : ℕ) (cap : ℕ) (items : List (ℕ × ℕ)) → length a ≡ s → s + 1 ≤ cap
    → Puts s n (is_owner (last_owner None a) n) cap (starts_after None 0 (a ++ (o ∷ []))) items
    → items ≡ starts_after None 0 (a ++ (n ∷ []))
put_alone a s n o cap items e room puts =
    put_first a [] s n o cap items e room puts ∙ sym (cut a [] s n e)

put_both : (a b : List ℕ) (s n o o' : ℕ) (cap cap' : ℕ) (items items' : List (ℕ × ℕ)) → length a ≡ s → s + suc (suc (length b)) ≤ cap → cap ≤ cap'
    → Puts s n (is_owner (last_owner None a) n) cap (starts_after None 0 (a ++ (o ∷ (o' ∷ b)))) items
    → Puts (suc s) o' (nat_eq n o') cap' items items'
    → items' ≡ starts_after None 0 (a ++ (n ∷ (o' ∷ b)))
put_both a b s n o o' cap cap' items items' e room more puts puts' =
    let j = is_owner (last_owner None a) n in
    let first : items ≡ starts_after None 0 a ++ (start_unless j s n ++ starts_after (Some o) (suc s) (o' ∷ b)) = put_first a (o' ∷ b) s n o cap items e room puts in
    puts' (starts_after None 0 a ++ start_unless j s n) (starts_after (Some o') (suc (suc s)) b) (nat_eq o o') o'
    (subst (IsAround (suc s) o' (nat_eq o o') (starts_after None 0 a ++ start_unless j s n) (starts_after (Some o') (suc (suc s)) b)) (sym first) (around_next a b s n o o' j e))
    (omega (arith, length-append (starts_after None 0 a) (start_unless j s n), unless-length j s n, starts-length None 0 a, starts-length (Some o') (suc (suc s)) b))
    ∙ append_assoc (starts_after None 0 a) (start_unless j s n) (start_unless (nat_eq n o') (suc s) o' ++ starts_after (Some o') (suc (suc s)) b)
    ∙ sym (cut a (o' ∷ b) s n e)

on_alone : (a b : List ℕ) (o n cap : ℕ) (items items' : List (ℕ × ℕ)) → suc (length a) ≡ length (a ++ (o ∷ b)) → length (a ++ (o ∷ b)) ≤ cap → items ≡ starts_of (a ++ (o ∷ b))
    → Puts (length a) n (is_owner (owner_before (a ++ (o ∷ b)) (length a)) n) cap items items' → items' ≡ starts_after None 0 (set (a ++ (o ∷ b)) (length a) n)
on_alone a [] o n cap items items' last room is puts =
    put_alone a (length a) n o cap items' refl (omega arith)
    (subst (λ q. Puts (length a) n (is_owner q n) cap (starts_after None 0 (a ++ (o ∷ []))) items') (sym (last_before a (o ∷ [])))
    (subst (λ it. Puts (length a) n (is_owner (owner_before (a ++ (o ∷ [])) (length a)) n) cap it items') (is ∙ starts-are (a ++ (o ∷ []))) puts))
    ∙ ap (starts_after None 0) (sym (set_middle a [] o n))
on_alone a (o' ∷ b) o n cap items items' last room is puts = absurd (omega (arith, length-append a (o ∷ (o' ∷ b))))

get_next : (a b : List ℕ) (o o' : ℕ) → get_or (a ++ (o ∷ (o' ∷ b))) (suc (length a)) 0 ≡ o'
get_next [] b o o' = refl
get_next (x ∷ a) b o o' = get_next a b o o'

on_both : (a b : List ℕ) (o n cap cap' : ℕ) (items items1 items2 : List (ℕ × ℕ)) → suc (length a) < length (a ++ (o ∷ b)) → length (a ++ (o ∷ b)) ≤ cap → cap ≤ cap' → items ≡ starts_of (a ++ (o ∷ b))
    → Puts (length a) n (is_owner (owner_before (a ++ (o ∷ b)) (length a)) n) cap items items1
    → Puts (suc (length a)) (get_or (a ++ (o ∷ b)) (suc (length a)) 0) (nat_eq n (get_or (a ++ (o ∷ b)) (suc (length a)) 0)) cap' items1 items2
    → items2 ≡ starts_after None 0 (set (a ++ (o ∷ b)) (length a) n)
on_both a [] o n cap cap' items items1 items2 within room more is puts puts' = absurd (omega (arith, length-append a (o ∷ [])))
on_both a (o' ∷ b) o n cap cap' items items1 items2 within room more is puts puts' =
    put_both a b (length a) n o o' cap cap' items1 items2 refl (omega (arith, length-append a (o ∷ (o' ∷ b)))) more
    (subst (λ q. Puts (length a) n (is_owner q n) cap (starts_after None 0 (a ++ (o ∷ (o' ∷ b)))) items1) (sym (last_before a (o ∷ (o' ∷ b))))
    (subst (λ it. Puts (length a) n (is_owner (owner_before (a ++ (o ∷ (o' ∷ b))) (length a)) n) cap it items1) (is ∙ starts-are (a ++ (o ∷ (o' ∷ b)))) puts))
    (subst (λ w. Puts (suc (length a)) w (nat_eq n w) cap' items1 items2) (get_next a b o o') puts')
    ∙ ap (starts_after None 0) (sym (set_middle a (o' ∷ b) o n))

set_alone : (os : List ℕ) (s n cap : ℕ) (items items' : List (ℕ × ℕ)) → suc s ≡ length os → length os ≤ cap → items ≡ starts_of os
    → Puts s n (is_owner (owner_before os s) n) cap items items' → items' ≡ starts_after None 0 (set os s n)
set_alone os s n cap items items' last room is puts =
    let p = parts os s (omega arith) in
    subst (λ t. suc t ≡ length os → Puts t n (is_owner (owner_before os t) n) cap items items' → items' ≡ starts_after None 0 (set os t n)) p.place
    (λ last puts. subst (λ ws. suc (length p.prefix) ≡ length ws → length ws ≤ cap → items ≡ starts_of ws → Puts (length p.prefix) n (is_owner (owner_before ws (length p.prefix)) n) cap items items' → items' ≡ starts_after None 0 (set ws (length p.prefix) n)) (sym p.whole)
    (on_alone p.prefix p.rest p.owner n cap items items') last room is puts)
    last puts

set_both : (os : List ℕ) (s n cap cap' : ℕ) (items items1 items2 : List (ℕ × ℕ)) → suc s < length os → length os ≤ cap → cap ≤ cap' → items ≡ starts_of os
    → Puts s n (is_owner (owner_before os s) n) cap items items1 → Puts (suc s) (get_or os (suc s) 0) (nat_eq n (get_or os (suc s) 0)) cap' items1 items2
    → items2 ≡ starts_after None 0 (set os s n)
set_both os s n cap cap' items items1 items2 within room more is puts puts' =
    let p = parts os s (omega arith) in
    subst (λ t. suc t < length os → Puts t n (is_owner (owner_before os t) n) cap items items1 → Puts (suc t) (get_or os (suc t) 0) (nat_eq n (get_or os (suc t) 0)) cap' items1 items2 → items2 ≡ starts_after None 0 (set os t n)) p.place
    (λ within puts puts'. subst (λ ws. suc (length p.prefix) < length ws → length ws ≤ cap → cap ≤ cap' → items ≡ starts_of ws → Puts (length p.prefix) n (is_owner (owner_before ws (length p.prefix)) n) cap items items1 → Puts (suc (length p.prefix)) (get_or ws (suc (length p.prefix)) 0) (nat_eq n (get_or ws (suc (length p.prefix)) 0)) cap' items1 items2 → items2 ≡ starts_after None 0 (set ws (length p.prefix) n)) (sym p.whole)
    (on_both p.prefix p.rest p.owner n cap cap' items items1 items2) within room more is puts puts')
    within puts puts'

pub row_of : (nodes : ℕ) (os : List ℕ) (items : List (ℕ × ℕ)) → IsTable (record { nodes = nodes; owners = os }) → items ≡ starts_after None 0 os → IsRow nodes items × (owners_by items ≡ os)
row_of nodes os items table e =
    let same : owners_by items ≡ os = ap owners_by e ∙ owners-starts os table.width in (
      record {
        table = subst (λ ws. IsTable (record { nodes = nodes; owners = ws })) (sym same) table;
        longest = e ∙ sym (starts-are os) ∙ ap starts_of (sym same);
      },
      same,
    )

table_set : (nodes : ℕ) (os : List ℕ) (s n : ℕ) → n < nodes → IsTable (record { nodes = nodes; owners = os }) → IsTable (record { nodes = nodes; owners = set os s n })
table_set nodes os s n h t = record {
  width = length-set os s n ∙ t.width;
  some = t.some;
  most = t.most;
  named = All-set (λ m. m < nodes) os s n h t.named;
}

pub row_set_alone : (nodes s n cap : ℕ) (items items' : List (ℕ × ℕ)) (j : Bool) → IsRow nodes items → n < nodes → s ≡ 16383 → 16384 ≤ cap
    → j ≡ is_owner (owner_before (owners_by items) s) n → Puts s n j cap items items' → IsRow nodes items' × (owners_by items' ≡ set (owners_by items) s n)
row_set_alone nodes s n cap items items' j row h last room is puts =
    let width : length (owners_by items) ≡ 16384 = row.table.width in
    row_of nodes (set (owners_by items) s n) items' (table_set nodes (owners_by items) s n h row.table)
    (set_alone (owners_by items) s n cap items items' (omega arith) (omega arith) row.longest (subst (λ b. Puts s n b cap items items') is puts))

pub row_set_both : (nodes s next n o cap cap' : ℕ) (items items1 items2 : List (ℕ × ℕ)) (j j' : Bool) → IsRow nodes items → n < nodes → next ≡ s + 1 → next < 16384 → 16384 ≤ cap → cap ≤ cap'
    → j ≡ is_owner (owner_before (owners_by items) s) n → o ≡ get_or (owners_by items) next 0 → j' ≡ nat_eq n o
    → Puts s n j cap items items1 → Puts next o j' cap' items1 items2 → IsRow nodes items2 × (owners_by items2 ≡ set (owners_by items) s n)
row_set_both nodes s next n o cap cap' items items1 items2 j j' row h after within room more is owner is' puts puts' =
    let width : length (owners_by items) ≡ 16384 = row.table.width in
    let one : next ≡ suc s = omega arith in
    let own : o ≡ get_or (owners_by items) (suc s) 0 = owner ∙ ap (λ k. get_or (owners_by items) k 0) one in
    row_of nodes (set (owners_by items) s n) items2 (table_set nodes (owners_by items) s n h row.table)
    (set_both (owners_by items) s n cap cap' items items1 items2 (omega arith) (omega arith) more row.longest (subst (λ b. Puts s n b cap items items1) is puts)
    (subst (λ w. Puts (suc s) w (nat_eq n w) cap' items1 items2) own
    (subst (λ k. Puts k o (nat_eq n o) cap' items1 items2) one
    (subst (λ b. Puts next o b cap' items1 items2) is' puts'))))

-- the slot's place in a row
pub record Placed (s k : ℕ) (items : List (ℕ × ℕ)) : Type 0 where
  pub owner : ℕ
  pub joins : Bool
  pub before : List (ℕ × ℕ)
  pub after : List (ℕ × ℕ)
  pub around : IsAround s owner joins before after items
  pub at : k ≡ length before
  pub room : length before + length after < 16384
  pub place : IsPlace s items k

pub row_placed : (nodes s t k : ℕ) (items slice : List (ℕ × ℕ)) → IsRow nodes items → s < 16384 → t ≡ s → slice ≡ items → IsPlace t slice k → Placed s k items
row_placed nodes s t k items slice row h number same found =
    let place : IsPlace s items k = subst (λ it. IsPlace s it k) same (subst (λ n. IsPlace n slice k) number found) in
    let width : length (owners_by items) ≡ 16384 = row.table.width in
    let p = parts (owners_by items) s (omega arith) in
    let at : length p.prefix ≡ s = p.place in
    let long : length (owners_by items) ≡ length (p.prefix ++ (p.owner ∷ p.rest)) = ap length p.whole in
    let whole : items ≡ starts_after None 0 (p.prefix ++ (p.owner ∷ p.rest)) = row.longest ∙ starts-are (owners_by items) ∙ ap (starts_after None 0) p.whole in
    let here = subst (IsAround s p.owner (is_owner (last_owner None p.prefix) p.owner) (starts_after None 0 p.prefix) (starts_after (Some p.owner) (suc s) p.rest)) (sym whole) (around p.prefix p.rest s p.owner p.place) in
    record {
      owner = p.owner;
      joins = is_owner (last_owner None p.prefix) p.owner;
      before = starts_after None 0 p.prefix;
      after = starts_after (Some p.owner) (suc s) p.rest;
      around = here;
      at = place_around s s p.owner (is_owner (last_owner None p.prefix) p.owner) (starts_after None 0 p.prefix) (starts_after (Some p.owner) (suc s) p.rest) items k here refl place;
      room = omega (arith, length-append p.prefix (p.owner ∷ p.rest), starts-length None 0 p.prefix, starts-length (Some p.owner) (suc s) p.rest);
      place = place;
    }

pub placed_heads : (s k : ℕ) (items : List (ℕ × ℕ)) → Placed s k items → Heads s k items
placed_heads s k items p = record { before = p.before; after = start_unless p.joins s p.owner ++ p.after; whole = p.around.whole; below = p.around.below; at = p.at }

pub put_heads : (s n k cap : ℕ) (j : Bool) (items items' : List (ℕ × ℕ)) → Placed s k items → 16384 ≤ cap → Puts s n j cap items items' → Heads s k items'
put_heads s n k cap j items items' p room puts =
    let few : length p.before + length p.after < 16384 = p.room in
    record { before = p.before; after = start_unless j s n ++ p.after; whole = puts p.before p.after p.joins p.owner p.around (omega arith); below = p.around.below; at = p.at }

pub row_ranges : (nodes : ℕ) (items : List (ℕ × ℕ)) → IsRow nodes items → between 16384 items ≡ owner_ranges (owners_by items)
row_ranges nodes items row =
    ap (between 16384) (row.longest ∙ starts-are (owners_by items)) ∙ ranges-starts (owners_by items) 16384 (sym row.table.width)

-- THE OWNER OF A SLOT

last_or : ℕ → List (ℕ × ℕ) → ℕ
last_or q [] = q
last_or q (e ∷ es) = last_or e.1 es

one_more : (p : Option ℕ) (i o : ℕ) (b : Bool) → is_owner p o ≡ b → last_or (or_zero p) (start_unless b i o ++ []) ≡ o
unfolding or_zero last_or
one_more None i o true e = cc
one_more (Some p) i o true e = same_owner p o e
one_more p i o false e = refl

through : (p : Option ℕ) (i o : ℕ) (b : Bool) (es : List (ℕ × ℕ)) → is_owner p o ≡ b → last_or (or_zero p) (start_unless b i o ++ es) ≡ last_or o es
unfolding or_zero last_or
through None i o true es e = cc
through (Some p) i o true es e = ap (λ q. last_or q es) (same_owner p o e)
through p i o false es e = refl

last-starts : (p : Option ℕ) (i : ℕ) (a : List ℕ) (o : ℕ) → last_or (or_zero p) (starts_after p i (a ++ (o ∷ []))) ≡ o
unfolding or_zero
last-starts p i [] o = one_more p i o _ refl
last-starts p i (x ∷ a) o = through p i x _ (starts_after (Some x) (suc i) (a ++ (o ∷ []))) refl ∙ last-starts (Some x) (suc i) a o

last_found : (e : ℕ × ℕ) (es r : List (ℕ × ℕ)) (d : ℕ × ℕ) → (get_or ((e ∷ es) ++ r) (length es) d).1 ≡ last_or e.1 es
unfolding last_or
last_found e [] r d = refl
last_found e (f ∷ es) r d = last_found f es r d

-- so many ranges begin at the slot or below it
pub record Reaches (items : List (ℕ × ℕ)) (k o : ℕ) : Type 0 where
  pub some : 1 ≤ k
  pub within : k - 1 < length items
  pub owner : (d : ℕ × ℕ) → (get_or items (k - 1) d).1 ≡ o

reaches_first : (e : ℕ × ℕ) (es r items : List (ℕ × ℕ)) (k o : ℕ) → items ≡ (e ∷ es) ++ r → k ≡ length (e ∷ es) → last_or e.1 es ≡ o → Reaches items k o
reaches_first e es r items k o is at last =
    let before : k - 1 ≡ length es = omega arith in
    let long : length items ≡ length ((e ∷ es) ++ r) = ap length is in
    record {
      some = omega arith;
      within = omega (arith, length-append (e ∷ es) r);
      owner = λ d. ap (λ j. (get_or items j d).1) before ∙ ap (λ it. (get_or it (length es) d).1) is ∙ last_found e es r d ∙ last;
    }

reaches : (a b : List ℕ) (o k : ℕ) (items : List (ℕ × ℕ)) → items ≡ starts_after None 0 (a ++ (o ∷ b))
    → ((l r : List (ℕ × ℕ)) → items ≡ l ++ r → Below (suc (length a)) l → From (suc (length a)) r → k ≡ length l) → Reaches items k o
unfolding or_zero last_or
reaches [] b o k items is place =
    reaches_first (0, o) [] (starts_after (Some o) 1 b) items k o is (place ((0, o) ∷ []) (starts_after (Some o) 1 b) is (omega arith, tt) (starts-from (Some o) 1 1 b (omega arith))) refl
reaches (x ∷ a) b o k items is place =
    let s = suc (length a) in
    let parted : (x ∷ a) ++ (o ∷ b) ≡ ((x ∷ a) ++ (o ∷ [])) ++ b = sym (append_assoc (x ∷ a) (o ∷ []) b) in
    let l = starts_after None 0 ((x ∷ a) ++ (o ∷ [])) in
    let long : length ((x ∷ a) ++ (o ∷ [])) ≡ suc s = omega (arith, length-append (x ∷ a) (o ∷ [])) in
    let r = starts_after (last_owner None ((x ∷ a) ++ (o ∷ []))) (length ((x ∷ a) ++ (o ∷ [])) + 0) b in
    let whole : items ≡ l ++ r = is ∙ ap (starts_after None 0) parted ∙ starts-append None 0 ((x ∷ a) ++ (o ∷ [])) b in
    reaches_first (0, x) (starts_after (Some x) 1 (a ++ (o ∷ []))) r items k o whole
    (place l r whole (starts-below None 0 (suc s) ((x ∷ a) ++ (o ∷ [])) (omega arith)) (starts-from _ _ (suc s) b (omega arith)))
    (last-starts (Some x) 1 a o)

pub owner_reached : (nodes s k n : ℕ) (items : List (ℕ × ℕ)) → IsRow nodes items → s < 16384 → n ≡ s + 1
    → ((l r : List (ℕ × ℕ)) → items ≡ l ++ r → Below n l → From n r → k ≡ length l) → Reaches items k (get_or (owners_by items) s 0)
owner_reached nodes s k n items row h after place =
    let width : length (owners_by items) ≡ 16384 = row.table.width in
    let p = parts (owners_by items) s (omega arith) in
    let bound : n ≡ suc (length p.prefix) = let at : length p.prefix ≡ s = p.place in omega arith in
    let got : get_or (owners_by items) s 0 ≡ p.owner = ap (λ ws. get_or ws s 0) p.whole ∙ ap (λ t. get_or (p.prefix ++ (p.owner ∷ p.rest)) t 0) (sym p.place) ∙ get_middle p.prefix p.rest p.owner 0 in
    subst (Reaches items k) (sym got)
    (reaches p.prefix p.rest p.owner k items (row.longest ∙ starts-are (owners_by items) ∙ ap (starts_after None 0) p.whole)
    (subst (λ m. (l r : List (ℕ × ℕ)) → items ≡ l ++ r → Below m l → From m r → k ≡ length l) bound place))

-- whether the node owns the slot before
pub owner_is_before : (s o n : ℕ) (os : List ℕ) → s ≢ 0 → o ≡ get_or os (s - 1) 0 → nat_eq o n ≡ is_owner (owner_before os s) n
owner_is_before zero o n os e is = absurd (e refl)
owner_is_before (suc s) o n os e is =
    let one : suc s - 1 ≡ s = omega arith in
    ap (λ p. nat_eq p n) (is ∙ ap (λ k. get_or os k 0) one)

pub row_named : (nodes s : ℕ) (items : List (ℕ × ℕ)) → IsRow nodes items → s < 16384 → get_or (owners_by items) s 0 < nodes
row_named nodes s items row h = let width : length (owners_by items) ≡ 16384 = row.table.width in row.table.named s 0 (omega arith)

-- EQUAL TABLES

abbrev pub same_start : ℕ × ℕ → ℕ × ℕ → Bool
same_start a b = nat_eq a.0 b.0 && nat_eq a.1 b.1

start_equals : (a b : ℕ × ℕ) → same_start a b ≡ true → a ≡ b
start_equals a b e = let parts = both_parts _ _ e in λ i. (same_owner a.0 b.0 parts.0 i, same_owner a.1 b.1 parts.1 i)
  where
    both_parts : (x y : Bool) → (x && y) ≡ true → (x ≡ true) × (y ≡ true)
    both_parts true y e = (refl, e)
    both_parts false y e = cc

eq_itself : (n : ℕ) → nat_eq n n ≡ true
eq_itself n = grind (arith, nat_tests)

start_itself : (a : ℕ × ℕ) → same_start a a ≡ true
start_itself a = ap (λ b. b && nat_eq a.1 a.1) (eq_itself a.0) ∙ eq_itself a.1

starts_equal : (xs ys : List (ℕ × ℕ)) → pointwise same_start xs ys ≡ true → xs ≡ ys
starts_equal [] [] e = refl
starts_equal [] (y ∷ ys) e = cc
starts_equal (x ∷ xs) [] e = cc
starts_equal (x ∷ xs) (y ∷ ys) e = let parts = both_parts _ _ e in λ i. start_equals x y parts.0 i ∷ starts_equal xs ys parts.1 i
  where
    both_parts : (x y : Bool) → (x && y) ≡ true → (x ≡ true) × (y ≡ true)
    both_parts true y e = (refl, e)
    both_parts false y e = cc

starts_itself : (xs : List (ℕ × ℕ)) → pointwise same_start xs xs ≡ true
starts_itself [] = refl
starts_itself (x ∷ xs) = ap (λ b. b && pointwise same_start xs xs) (start_itself x) ∙ starts_itself xs

pub rows_same : (nodes nodes' : ℕ) (items items' : List (ℕ × ℕ)) (r : Bool) → IsRow nodes items → IsRow nodes' items' → nodes ≡ nodes' → r ≡ pointwise same_start items items'
    → IsTrue r ↔ (◌≡◌ {A = Owners} (record { nodes = nodes; owners = owners_by items }) (record { nodes = nodes'; owners = owners_by items' }))
rows_same nodes nodes' items items' r row row' n e = (
  λ t. let same = starts_equal items items' (sym e ∙ t) in λ i. record { nodes = n i; owners = owners_by (same i) },
  λ p. let same : items ≡ items' = row.longest ∙ ap (λ (o : Owners). starts_of o.owners) p ∙ sym row'.longest in
      e ∙ ap (λ it. pointwise same_start it items') same ∙ starts_itself items',
)

-- AN EVEN SPLIT

-- the starts of the first k of n nodes
pub record EvenRow (n k : ℕ) (items : List (ℕ × ℕ)) : Type 0 where
  pub owners : List ℕ
  pub shares : SharesBelow n k owners
  pub starts : items ≡ starts_after None 0 owners
  pub last : is_owner (last_owner None owners) k ≡ false

none_starts : (k i c : ℕ) → starts_after (Some k) i (replicate c k) ≡ []
none_starts k i zero = refl
none_starts k i (suc c) = ap (λ b. start_unless b i k ++ starts_after (Some k) (suc i) (replicate c k)) (eq_itself k) ∙ none_starts k (suc i) c

last-replicate : (p : Option ℕ) (c k : ℕ) → last_owner (Some k) (replicate c k) ≡ Some k
last-replicate p zero k = refl
last-replicate p (suc c) k = last-replicate p c k

last-append : (p : Option ℕ) (xs ys : List ℕ) → last_owner p (xs ++ ys) ≡ last_owner (last_owner p xs) ys
last-append p [] ys = refl
last-append p (x ∷ xs) ys = last-append (Some x) xs ys

not_next : (k : ℕ) → nat_eq k (k + 1) ≡ false
not_next k = grind (arith, nat_tests)

more_starts : (n k c : ℕ) (items items' : List (ℕ × ℕ)) → 1 ≤ n → k < n → start n k + suc c ≡ start n (k + 1) → EvenRow n k items → items' ≡ items ++ ((start n k, k) ∷ []) → EvenRow n (k + 1) items'
more_starts n k c items items' h lt ends row is =
    let ow = row.owners in
    let width : length ow ≡ start n k = row.shares.width in
    let at : length ow + 0 ≡ start n k = omega arith in
    let added : starts_after None 0 (ow ++ replicate (suc c) k) ≡ starts_after None 0 ow ++ ((start n k, k) ∷ []) =
    starts-append None 0 ow (replicate (suc c) k)
    ∙ ap (λ j. starts_after None 0 ow ++ starts_after (last_owner None ow) j (replicate (suc c) k)) at
    ∙ ap (λ b. starts_after None 0 ow ++ (start_unless b (start n k) k ++ starts_after (Some k) (suc (start n k)) (replicate c k))) row.last
    ∙ ap (λ l. starts_after None 0 ow ++ ((start n k, k) ∷ l)) (none_starts k (suc (start n k)) c) in
    record {
      owners = ow ++ replicate (suc c) k;
      shares = more n k ow (suc c) h lt row.shares (omega arith);
      starts = is ∙ ap (λ l. l ++ ((start n k, k) ∷ [])) row.starts ∙ sym added;
      last = ap (λ q. is_owner q (k + 1)) (last-append None ow (replicate (suc c) k) ∙ last-replicate None c k) ∙ not_next k;
    }

pub even_next : (n k : ℕ) (items items' : List (ℕ × ℕ)) → 1 ≤ n → n ≤ 255 → k < n → EvenRow n k items → items' ≡ items ++ ((start n k, k) ∷ []) → EvenRow n (k + 1) items'
even_next n k items items' h top lt row is =
    let grows : start n k < start n (k + 1) = start-lt n k h top in
    more_starts n k (start n (k + 1) - start n k - 1) items items' h lt (omega arith) row is

pub even_none : (n : ℕ) (items : List (ℕ × ℕ)) → 1 ≤ n → items ≡ [] → EvenRow n 0 items
even_none n items h e = record { owners = []; shares = none n [] h refl; starts = e; last = refl }

pub record EvenStarts (n : ℕ) (items : List (ℕ × ℕ)) : Type 0 where
  pub longest : items ≡ starts_of (owners_by items)
  pub width : length (owners_by items) ≡ 16384
  pub named : All (λ m. m < n) (owners_by items)
  pub shares : (i s : ℕ) → i < n → start n i ≤ s → s < start n (i + 1) → get_or (owners_by items) s 0 ≡ i

pub even_all : (n k : ℕ) (items : List (ℕ × ℕ)) → 1 ≤ n → k ≡ n → EvenRow n k items → EvenStarts n items
even_all n k items h e row =
    let ow = row.owners in
    let wide : length ow ≡ 16384 = all n k ow h e row.shares in
    let same : owners_by items ≡ ow = ap owners_by row.starts ∙ owners-starts ow wide in
    record {
      longest = row.starts ∙ sym (starts-are ow) ∙ ap starts_of (sym same);
      width = ap length same ∙ wide;
      named = subst (All (λ m. m < n)) (sym same) row.shares.named;
      shares = λ i s lt from to. ap (λ ws. get_or ws s 0) same ∙ row.shares.shares i s (let a : i < n = lt in omega (arith, e)) from to;
    }
