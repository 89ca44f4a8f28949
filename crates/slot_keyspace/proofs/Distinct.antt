-- No key of a store is listed twice, nor of a slot, nor in a batch of keys that are not.
use Rattle.std.proofs.Common.{◌≡◌, ◌≤◌, length, arith, ℕ, zero, suc, Bool, true, false, cond, ◌&&◌, List, [], ◌∷◌, map, filter, take, Option, Some, None, Result, Ok, Err, IfOk, Vec, Global, refl, sym, ap, subst, ◌∙◌, nat_eq, T}
use Rattle.std.specs.Ordering.{is_lt}
use Rattle.std.specs.Cmp.{tied_itself}
use Rattle.std.specs.Cmp.Lexicographic.{pointwise, same_text}
use Rattle.std.specs.List.{IsDistinct, AllByRecursion}
use Rattle.std.specs.FinMap.{get, entries, entries_sorted, keys, is_sorted}
use Rattle.std.specs.FinMap.Entries.{below_all}
use Rattle.typed_values.specs.declared.value.Value.{Value}
use Rattle.store_commands.specs.Store.{Key, Store}
use Rattle.slot_keyspace.specs.Listing.{keys_of}
use Rattle.slot_keyspace.specs.Batches.{Entry, found_with, batch_of, HasEachKeyOnce}
use Rattle.slot_keyspace.proofs.Batches.{batch_of-more, batch_of-nil}
use Rattle.slot_keyspace.proofs.Places.{order, order-total}

abbrev pub IsApart : Key → Key → Type 0
IsApart k j = pointwise nat_eq k j ≡ false

told : (b : Bool) → T b → b ≡ true
told true h = refl
told false h = absurd h

both_told : (a b : Bool) → (a && b) ≡ true → (a ≡ true) × (b ≡ true)
both_told true b e = (refl, e)
both_told false b e = cc

-- of two keys in order, neither is the other
in_order : (k j : Key) → is_lt (order k j) ≡ true → IsApart k j
in_order k j less = by (pointwise nat_eq k j) refl
  where
    by : (b : Bool) → pointwise nat_eq k j ≡ b → pointwise nat_eq k j ≡ false
    by false e = e
    by true e =
        let same : k ≡ j = same_text k j (sym e) in
        let here : is_lt (order k k) ≡ true = ap (λ x. is_lt (order k x)) same ∙ less in
        let tie : is_lt (order k k) ≡ false = ap is_lt (tied_itself order-total k) in
        let clash : true ≡ false = sym here ∙ tie in
        cc

apart-below : (k : Key) (es : List (Key × Value)) → below_all order k es ≡ true → AllByRecursion (IsApart k) (map (λ e. e.0) es)
apart-below k [] h = tt
apart-below k (e ∷ es) h = let p = both_told _ _ h in (in_order k e.0 p.0, apart-below k es p.1)

distinct-sorted : (es : List (Key × Value)) → is_sorted order es ≡ true → IsDistinct (pointwise nat_eq) (map (λ e. e.0) es)
unfolding IsDistinct
distinct-sorted [] h = tt
distinct-sorted (e ∷ es) h = let p = both_told _ _ h in (apart-below e.0 es p.0, distinct-sorted es p.1)

pub distinct-keys : (s : Store) → IsDistinct (pointwise nat_eq) (keys s)
distinct-keys s = distinct-sorted (entries s) (told _ (entries_sorted s))

all-filter : (P : Key → Type 0) (p : Key → Bool) (ks : List Key) → AllByRecursion P ks → AllByRecursion P (filter p ks)
all-filter P p [] h = tt
all-filter P p (k ∷ ks) h = elim (p k) as (λ b. AllByRecursion P (cond b (k ∷ filter p ks) (filter p ks))) [ true ↦ (h.0, all-filter P p ks h.1) | false ↦ all-filter P p ks h.1 ]

pub distinct-filter : (p : Key → Bool) (ks : List Key) → IsDistinct (pointwise nat_eq) ks → IsDistinct (pointwise nat_eq) (filter p ks)
unfolding IsDistinct
distinct-filter p [] h = tt
distinct-filter p (k ∷ ks) h =
    elim (p k) as (λ b. IsDistinct (pointwise nat_eq) (cond b (k ∷ filter p ks) (filter p ks))) [ true ↦ (all-filter (IsApart k) p ks h.0, distinct-filter p ks h.1) | false ↦ distinct-filter p ks h.1 ]

all-take : (P : Key → Type 0) (n : ℕ) (ks : List Key) → AllByRecursion P ks → AllByRecursion P (take n ks)
all-take P zero ks h = tt
all-take P (suc n) [] h = tt
all-take P (suc n) (k ∷ ks) h = (h.0, all-take P n ks h.1)

pub distinct-take : (n : ℕ) (ks : List Key) → IsDistinct (pointwise nat_eq) ks → IsDistinct (pointwise nat_eq) (take n ks)
unfolding IsDistinct
distinct-take zero ks h = tt
distinct-take (suc n) [] h = tt
distinct-take (suc n) (k ∷ ks) h = (all-take (IsApart k) n ks h.0, distinct-take n ks h.1)

-- the keys of a slot, and so the first of them
pub distinct-keys_of : (s : Store) (slot : ℕ) → IsDistinct (pointwise nat_eq) (keys_of s slot)
unfolding keys_of
distinct-keys_of s slot = distinct-filter _ (keys s) (distinct-keys s)

all-found : (P : Key → Type 0) (k : Key) (o : Option Value) (es : List Entry) → P k → AllByRecursion P (map (λ e. e.0) es) → AllByRecursion P (map (λ e. e.0) (found_with k o es))
all-found P k None es here rest = rest
all-found P k (Some v) es here rest = (here, rest)

all-batch : (P : Key → Type 0) (s : Store) (ks : List Key) → AllByRecursion P ks → AllByRecursion P (map (λ e. e.0) (batch_of s ks))
all-batch P s [] h = rw (batch_of-nil s) tt
all-batch P s (k ∷ ks) h = rw (batch_of-more s k ks) (all-found P k (get s k) (batch_of s ks) h.0 (all-batch P s ks h.1))

found-once : (k : Key) (o : Option Value) (es : List Entry) → AllByRecursion (IsApart k) (map (λ e. e.0) es) → HasEachKeyOnce es → HasEachKeyOnce (found_with k o es)
unfolding IsDistinct
found-once k None es apart once = once
found-once k (Some v) es apart once = (apart, once)

once-nil : HasEachKeyOnce []
unfolding IsDistinct
once-nil = tt

distinct_parts : (k : Key) (ks : List Key) → IsDistinct (pointwise nat_eq) (k ∷ ks) → AllByRecursion (IsApart k) ks × IsDistinct (pointwise nat_eq) ks
unfolding IsDistinct
distinct_parts k ks h = h

-- a batch of keys that stand once each can be put
pub once-batch_of : (s : Store) (ks : List Key) → IsDistinct (pointwise nat_eq) ks → HasEachKeyOnce (batch_of s ks)
once-batch_of s [] h = subst HasEachKeyOnce (sym (batch_of-nil s)) once-nil
once-batch_of s (k ∷ ks) h =
    let p = distinct_parts k ks h in
    subst HasEachKeyOnce (sym (batch_of-more s k ks)) (found-once k (get s k) (batch_of s ks) (all-batch (IsApart k) s ks p.0) (once-batch_of s ks p.1))

pub few_are_once : (es : List Entry) → length es ≤ 1 → HasEachKeyOnce es
unfolding IsDistinct
few_are_once [] h = tt
few_are_once (e ∷ []) h = (tt, tt)
few_are_once (e ∷ f ∷ es) h = absurd (omega arith)

-- copies of the first keys of a slot
pub once-copies : {E : Type 0} (r : Result (Vec Entry Global) E) (s : Store) (slot count : ℕ) (ks : List Key) → ks ≡ take count (keys_of s slot)
    → IfOk r (λ v. v.items ≡ batch_of s ks) → IfOk r (λ v. HasEachKeyOnce v.items)
once-copies (Ok v) s slot count ks is h =
    subst HasEachKeyOnce (sym (h ∙ ap (batch_of s) is)) (once-batch_of s (take count (keys_of s slot)) (distinct-take count (keys_of s slot) (distinct-keys_of s slot)))
once-copies (Err e) s slot count ks is h = tt
