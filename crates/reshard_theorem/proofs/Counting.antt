-- How many keys of a slot a node holds, and how many rounds a drain takes.
use Rattle.std.proofs.Common.{◌≡◌, ℕ, suc, ◌+◌, ◌-◌, ◌/◌, ◌<◌, ◌≤◌, Bool, true, false, cond, not, eqb, ◌&&◌, List, [], ◌∷◌, map, filter, length, T, Option, Some, None, is_some, sym, refl, ap, ◌∙◌, arith, inl, inr, le-div_iff_mul-le, div-mul-le_self, div-lt_iff_lt-mul, le_trans, Ordering, Less, Equal, Greater, is_eq, is_lt}
use Rattle.std.proofs.lemmas.Bool.{cases_lt, true≢false, eqb-true, eq-eqb}
use Rattle.std.proofs.lemmas.Map.Keys.{IsDistinct-head, IsDistinct-tail, IsDistinct-cons}
use Rattle.std.proofs.lemmas.Map.Made.{length-le_from_is_member}
use Rattle.std.specs.List.{AllByRecursion, IsDistinct}
use Rattle.std.specs.FinMap.{get, keys, entries, entries_sorted, is_sorted, Entries.below_all}
use native.Mathlib.Nat.{add-div_right}
use Rattle.std.specs.Cmp.{eq_by_cmp_equiv}
use Rattle.std.specs.Cmp.Lexicographic.{nat_list_cmp_total}
use Rattle.store_commands.specs.Store.{Key, Store, order, same_key, is_named}
use Rattle.typed_values.specs.declared.value.Value.{Value}
use Rattle.key_slots.specs.HashSlot.{slot_of}
use Rattle.slot_keyspace.specs.Listing.{keys_of}
use Rattle.plan_semantics.specs.Costs.{rounds}
use Rattle.cluster_world.specs.Servers.{ListsSlot}
use Rattle.std.proofs.Math.Nat.{min-eq_left, min-eq_right}
use Rattle.std.specs.Prelude.{min}
use Rattle.std.proofs.lemmas.List.Filters.{length-filter_both}
use Rattle.reshard_theorem.proofs.Listing.{get-named, filter_named, named_filter, named_any}

-- ---- rounds

pub rounds_mono : (b h k : ℕ) → 0 < b → h ≤ k → rounds b h ≤ rounds b k
rounds_mono b h k some le = (le-div_iff_mul-le some).1 (le_trans (div-mul-le_self (h + (b - 1)) b) (omega arith))

pub rounds_step : (b h k : ℕ) → 0 < b → 0 < h → k ≤ h - b → rounds b k + 1 ≤ rounds b h
rounds_step b h k some full le = elim (cases_lt h b) [
  | inl small ↦ (let none : rounds b k < 1 = (div-lt_iff_lt-mul some).1 (omega arith) in
      let one : 1 ≤ rounds b h = (le-div_iff_mul-le some).1 (omega arith) in
      omega arith)
  | inr large ↦ (let rest : rounds b k ≤ rounds b (h - b) = rounds_mono b k (h - b) some le in
      let more : (h - b + (b - 1) + b) / b ≡ rounds b (h - b) + 1 = add-div_right (h - b + (b - 1)) some in
      let same : h - b + (b - 1) + b ≡ h + (b - 1) = omega arith in
      let joined : rounds b h ≡ rounds b (h - b) + 1 = ap (λ x. x / b) (sym same) ∙ more in
      omega arith)
]

-- ---- lists of different keys

is_lt_apart : (r : Ordering) → T (is_lt r) → is_eq r ≡ false
is_lt_apart Less h = refl
is_lt_apart Equal h = absurd h
is_lt_apart Greater h = absurd h

both_T : (a b : Bool) → T (a && b) → T a × T b
both_T true b h = (tt, h)
both_T false b h = absurd h

distinct_entries : (es : List (Key × Value)) → T (is_sorted order es) → IsDistinct same_key (map (λ e. e.0) es)
unfolding IsDistinct
distinct_entries [] h = tt
distinct_entries (e ∷ es) h =
    let p = both_T _ _ h in
    IsDistinct-cons same_key e.0 (map (λ e. e.0) es) (below es p.0) (distinct_entries es p.1)
  where
    below : (xs : List (Key × Value)) → T (below_all order e.0 xs) → AllByRecursion (λ y. same_key e.0 y ≡ false) (map (λ e. e.0) xs)
    below [] g = tt
    below (x ∷ xs) g = let q = both_T _ _ g in (is_lt_apart (order e.0 x.0) q.0, below xs q.1)

pub distinct_keys : (store : Store) → IsDistinct same_key (keys store)
distinct_keys store = distinct_entries (entries store) (entries_sorted store)

all_filter : (p : Key → Bool) (P : Key → Type 0) (xs : List Key) → AllByRecursion P xs → AllByRecursion P (filter p xs)
all_filter p P [] h = tt
all_filter p P (x ∷ xs) h = by (p x) (all_filter p P xs h.1)
  where
    by : (b : Bool) → AllByRecursion P (filter p xs) → AllByRecursion P (cond b (x ∷ filter p xs) (filter p xs))
    by true g = (h.0, g)
    by false g = g

pub distinct_filter : (p : Key → Bool) (xs : List Key) → IsDistinct same_key xs → IsDistinct same_key (filter p xs)
distinct_filter p [] h = h
distinct_filter p (x ∷ xs) h = by (p x) (distinct_filter p xs (IsDistinct-tail same_key x xs h))
  where
    by : (b : Bool) → IsDistinct same_key (filter p xs) → IsDistinct same_key (cond b (x ∷ filter p xs) (filter p xs))
    by true g = IsDistinct-cons same_key x (filter p xs) (all_filter p (λ y. same_key x y ≡ false) xs (IsDistinct-head same_key x xs h)) g
    by false g = g

-- the keys of the slot that are not in the list
unfoldable pub left_of : Store → ℕ → List Key → List Key
left_of store s ks = filter (λ k. not (is_named k ks)) (keys_of store s)

pub distinct_slot : (store : Store) (s : ℕ) → IsDistinct same_key (keys_of store s)
unfolding keys_of
distinct_slot store s = distinct_filter (λ k. eqb (slot_of k) s) (keys store) (distinct_keys store)

pub fewer : (xs ys : List Key) → IsDistinct same_key xs → ((q : Key) → is_named q xs ≡ true → is_named q ys ≡ true) → length xs ≤ length ys
fewer xs ys d h = length-le_from_is_member (eq_by_cmp_equiv nat_list_cmp_total) xs ys d (λ q e. named_any q ys ∙ h q (sym (named_any q xs) ∙ e))

pub named_slot_key : (store : Store) (s : ℕ) (q : Key) → is_named q (keys_of store s) ≡ true → (slot_of q ≡ s) × (is_some (get store q) ≡ true)
unfolding keys_of
named_slot_key store s q e = let p = named_filter (λ k. eqb (slot_of k) s) (keys store) q e in (eqb-true (slot_of q) s p.1, get-named store q ∙ p.0)

pub slot_key_named : (store : Store) (s : ℕ) (q : Key) → slot_of q ≡ s → is_some (get store q) ≡ true → is_named q (keys_of store s) ≡ true
unfolding keys_of
slot_key_named store s q i e = filter_named (λ k. eqb (slot_of k) s) (keys store) q (sym (get-named store q) ∙ e) (eq-eqb (slot_of q) s i)

still : (a b : Option Value) → is_some b ≡ true → (a ≡ None → b ≡ None) → is_some a ≡ true
still None b e h = absurd (true≢false (sym e ∙ ap is_some (h refl)))
still (Some v) b e h = refl

-- a store of the slot's keys that gains none has no more of them
pub count_le : (old new : Store) (s : ℕ) → ((k : Key) → slot_of k ≡ s → get old k ≡ None → get new k ≡ None) → length (keys_of new s) ≤ length (keys_of old s)
count_le old new s h = fewer _ _ (distinct_slot new s) (λ q e.
    let p = named_slot_key new s q e in
    slot_key_named old s q p.0 (still (get old q) (get new q) p.1 (h q p.0)))

-- ---- what is left beside a listing

named_not : (b : Bool) → not b ≡ true → b ≡ false
named_not true e = sym e
named_not false e = refl

pub named_left : (store : Store) (s : ℕ) (ks : List Key) (q : Key) → is_named q (left_of store s ks) ≡ true → (is_named q (keys_of store s) ≡ true) × (is_named q ks ≡ false)
unfolding left_of
named_left store s ks q e = let p = named_filter (λ k. not (is_named k ks)) (keys_of store s) q e in (p.0, named_not (is_named q ks) p.1)

pub left_named : (store : Store) (s : ℕ) (ks : List Key) (q : Key) → is_named q (keys_of store s) ≡ true → is_named q ks ≡ false → is_named q (left_of store s ks) ≡ true
unfolding left_of
left_named store s ks q e i = filter_named (λ k. not (is_named k ks)) (keys_of store s) q e (ap not i)

distinct_left : (store : Store) (s : ℕ) (ks : List Key) → IsDistinct same_key (left_of store s ks)
unfolding left_of
distinct_left store s ks = distinct_filter _ _ (distinct_slot store s)

-- ---- listings of a server

length_none : (xs : List Key) → length xs ≡ 0 → xs ≡ []
length_none [] e = refl
length_none (x ∷ xs) e = cc

pub least : (b n k : ℕ) → k ≡ min b n → (k ≤ b) × (k ≤ n) × (n - k ≡ n - b)
least b n k e = elim (cases_lt b n) [
  | inl h ↦ (let m : min b n ≡ b = min-eq_left (omega arith) in (omega arith, omega arith, omega arith))
  | inr h ↦ (let m : min b n ≡ n = min-eq_right (omega arith) in (omega arith, omega arith, omega arith))
]

-- nothing is listed only where no key of the slot stands
pub none_by_listing : (store : Store) (s b : ℕ) → 0 < b → ListsSlot store s b [] → keys_of store s ≡ []
none_by_listing store s b some l = length_none (keys_of store s) (none b (length (keys_of store s)) some l.many)
  where
    none : (b n : ℕ) → 0 < b → 0 ≡ min b n → n ≡ 0
    none b n h e = let p = least b n 0 e in let q = p.2 in omega arith

pub some_by_listing : (store : Store) (s b : ℕ) (k : Key) (ks : List Key) → ListsSlot store s b (k ∷ ks) → 0 < length (keys_of store s)
some_by_listing store s b k ks l = let p : suc (length ks) ≤ length (keys_of store s) = (least b (length (keys_of store s)) (suc (length ks)) l.many).1 in omega arith

-- every listed key is of the slot
pub listed_slot : (store : Store) (s b : ℕ) (ks : List Key) (q : Key) → ListsSlot store s b ks → is_named q ks ≡ true → slot_of q ≡ s
listed_slot store s b ks q l e = (named_slot_key store s q (l.stand q e)).0

-- a listing leaves what it does not list, whichever keys those are
pub left_exact : (store : Store) (s b : ℕ) (ks : List Key) → ListsSlot store s b ks → length (left_of store s ks) ≡ length (keys_of store s) - b
unfolding left_of
left_exact store s b ks l =
    let inside : List Key = filter (λ k. is_named k ks) (keys_of store s) in
    let most : length ks ≤ length inside = fewer ks inside l.distinct (λ q e. filter_named (λ k. is_named k ks) (keys_of store s) q (l.stand q e) e) in
    let least' : length inside ≤ length ks = fewer inside ks (distinct_filter (λ k. is_named k ks) (keys_of store s) (distinct_slot store s)) (λ q e. (named_filter (λ k. is_named k ks) (keys_of store s) q e).1) in
    let all : length inside + length (filter (λ k. not (is_named k ks)) (keys_of store s)) ≡ length (keys_of store s) = length-filter_both (λ k. is_named k ks) (λ k. not (is_named k ks)) (λ k. refl) (keys_of store s) in
    let many : length (keys_of store s) - length ks ≡ length (keys_of store s) - b = (least b (length (keys_of store s)) (length ks) l.many).2 in
    omega arith

pub left_le : (old new : Store) (s : ℕ) (ks : List Key) → ((k : Key) → slot_of k ≡ s → get old k ≡ None → get new k ≡ None) → length (left_of new s ks) ≤ length (left_of old s ks)
left_le old new s ks h = fewer _ _ (distinct_left new s ks) (λ q e.
    let p = named_left new s ks q e in
    let r = named_slot_key new s q p.0 in
    left_named old s ks q (slot_key_named old s q r.0 (still (get old q) (get new q) r.1 (h q r.0))) p.1)

-- once the listed keys have moved, the others are left
pub left_after_batch : (old new : Store) (s : ℕ) (ks : List Key) → ((q : Key) → get new q ≡ cond (is_named q ks) None (get old q)) → length (keys_of new s) ≤ length (left_of old s ks)
left_after_batch old new s ks h = fewer _ _ (distinct_slot new s) (λ q e.
    let r = named_slot_key new s q e in
    let p = moved (is_named q ks) (get old q) (ap is_some (sym (h q)) ∙ r.1) in
    left_named old s ks q (slot_key_named old s q r.0 p.1) p.0)
  where
    moved : (b : Bool) (o : Option Value) → is_some (cond b None o) ≡ true → (b ≡ false) × (is_some o ≡ true)
    moved true o e = absurd (true≢false (sym e))
    moved false o e = (refl, e)

-- a store of the slot's same keys has as many
pub count_same : (old new : Store) (s : ℕ) → ((k : Key) → slot_of k ≡ s → get new k ≡ get old k) → length (keys_of new s) ≡ length (keys_of old s)
count_same old new s same =
    let a : length (keys_of new s) ≤ length (keys_of old s) = count_le old new s (λ k i e. same k i ∙ e) in
    let b : length (keys_of old s) ≤ length (keys_of new s) = count_le new old s (λ k i e. sym (same k i) ∙ e) in
    omega arith

-- ---- a listing is full

pub rounds_whole : (b h : ℕ) → 0 < b → 0 < h → rounds b h ≡ rounds b (h - b) + 1
rounds_whole b h some full = elim (cases_lt h b) [
  | inl small ↦ (let none : rounds b (h - b) < 1 = (div-lt_iff_lt-mul some).1 (omega arith) in
      let one : 1 ≤ rounds b h = (le-div_iff_mul-le some).1 (omega arith) in
      let two : rounds b h < 2 = (div-lt_iff_lt-mul some).1 (omega arith) in
      omega arith)
  | inr large ↦ (let more : (h - b + (b - 1) + b) / b ≡ rounds b (h - b) + 1 = add-div_right (h - b + (b - 1)) some in
      let same : h - b + (b - 1) + b ≡ h + (b - 1) = omega arith in
      ap (λ x. x / b) (sym same) ∙ more)
]

pub left_by_batch : (old new : Store) (s : ℕ) (ks : List Key) → ((q : Key) → get new q ≡ cond (is_named q ks) None (get old q)) → length (keys_of new s) ≡ length (left_of old s ks)
left_by_batch old new s ks h =
    let a : length (keys_of new s) ≤ length (left_of old s ks) = left_after_batch old new s ks h in
    let b : length (left_of old s ks) ≤ length (keys_of new s) = fewer _ _ (distinct_left old s ks) (λ q e.
    let p = named_left old s ks q e in
    let r = named_slot_key old s q p.0 in
    slot_key_named new s q r.0 (ap is_some (h q ∙ ap (λ x. cond x None (get old q)) p.1) ∙ r.1)) in
    omega arith

-- no more is left than stands there
pub fewer_left : (store : Store) (s : ℕ) (ks : List Key) → length (left_of store s ks) ≤ length (keys_of store s)
fewer_left store s ks = fewer _ _ (distinct_left store s ks) (λ q e. (named_left store s ks q e).0)
