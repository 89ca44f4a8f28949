-- What a node lists of a slot is a listing.
use Rattle.std.proofs.Common.{◌≡◌, ℕ, zero, suc, ◌≤◌, Bool, true, false, cond, eqb, ◌&&◌, List, [], ◌∷◌, map, filter, take, length, T, refl, arith}
use Rattle.std.specs.Prelude.{nat_le}
use Rattle.std.specs.Ordering.{is_lt}
use Rattle.std.specs.List.{list_all, AllByRecursion}
use Rattle.std.specs.FinMap.{keys, entries, entries_sorted, is_sorted}
use Rattle.std.specs.FinMap.Entries.{below_all}
use Rattle.std.proofs.lemmas.Bool.{le-leb}
use Rattle.key_slots.specs.HashSlot.{slot_of}
use Rattle.typed_values.specs.declared.value.Value.{Value}
use Rattle.cluster_admin.specs.Keys.{Key, order}
use Rattle.store_commands.specs.Store.{Store}
use Rattle.slot_keyspace.specs.Listing.{keys_of}
use Rattle.plan_runner.specs.Listings.{is_listing, is_rising}

-- each key stands before all that come after it
abbrev Rises : List Key → Type 0
Rises [] = Unit {0}
Rises (k ∷ ks) = AllByRecursion (λ q. is_lt (order k q) ≡ true) ks × Rises ks

told : (b : Bool) → T b → b ≡ true
told true h = refl
told false h = absurd h

both_told : (a b : Bool) → (a && b) ≡ true → (a ≡ true) × (b ≡ true)
both_told true b e = (refl, e)
both_told false b e = cc

below-keys : (k : Key) (es : List (Key × Value)) → below_all order k es ≡ true → AllByRecursion (λ q. is_lt (order k q) ≡ true) (map (λ e. e.0) es)
below-keys k [] h = tt
below-keys k (e ∷ es) h = let p = both_told _ _ h in (p.0, below-keys k es p.1)

rises-sorted : (es : List (Key × Value)) → is_sorted order es ≡ true → Rises (map (λ e. e.0) es)
rises-sorted [] h = tt
rises-sorted (e ∷ es) h = let p = both_told _ _ h in (below-keys e.0 es p.0, rises-sorted es p.1)

rises-keys : (s : Store) → Rises (keys s)
rises-keys s = rises-sorted (entries s) (told _ (entries_sorted s))

all-filter : (P : Key → Type 0) (p : Key → Bool) (ks : List Key) → AllByRecursion P ks → AllByRecursion P (filter p ks)
all-filter P p [] h = tt
all-filter P p (k ∷ ks) h = elim (p k) as (λ b. AllByRecursion P (cond b (k ∷ filter p ks) (filter p ks))) [ true ↦ (h.0, all-filter P p ks h.1) | false ↦ all-filter P p ks h.1 ]

rises-filter : (p : Key → Bool) (ks : List Key) → Rises ks → Rises (filter p ks)
rises-filter p [] h = tt
rises-filter p (k ∷ ks) h = elim (p k) as (λ b. Rises (cond b (k ∷ filter p ks) (filter p ks))) [ true ↦ (all-filter _ p ks h.0, rises-filter p ks h.1) | false ↦ rises-filter p ks h.1 ]

all-take : (P : Key → Type 0) (n : ℕ) (ks : List Key) → AllByRecursion P ks → AllByRecursion P (take n ks)
all-take P zero ks h = tt
all-take P (suc n) [] h = tt
all-take P (suc n) (k ∷ ks) h = (h.0, all-take P n ks h.1)

rises-take : (n : ℕ) (ks : List Key) → Rises ks → Rises (take n ks)
rises-take zero ks h = tt
rises-take (suc n) [] h = tt
rises-take (suc n) (k ∷ ks) h = (all-take _ n ks h.0, rises-take n ks h.1)

rising : (ks : List Key) → Rises ks → is_rising ks ≡ true
unfolding is_rising
rising [] h = refl
rising (k ∷ []) h = refl
rising (k ∷ (q ∷ ks)) h = let more = rising (q ∷ ks) h.1 in λ i. h.0.0 i && more i

passed-filter : (p : Key → Bool) (ks : List Key) → list_all p (filter p ks) ≡ true
passed-filter p [] = refl
passed-filter p (k ∷ ks) = by (p k) refl (passed-filter p ks)
  where
    by : (b : Bool) → p k ≡ b → list_all p (filter p ks) ≡ true → list_all p (cond b (k ∷ filter p ks) (filter p ks)) ≡ true
    by true e more = λ i. e i && more i
    by false e more = more

passed-take : (p : Key → Bool) (n : ℕ) (ks : List Key) → list_all p ks ≡ true → list_all p (take n ks) ≡ true
passed-take p zero ks h = refl
passed-take p (suc n) [] h = refl
passed-take p (suc n) (k ∷ ks) h = let q = both_told (p k) (list_all p ks) h in let more = passed-take p n ks q.1 in λ i. q.0 i && more i

short-take : (n : ℕ) (ks : List Key) → length (take n ks) ≤ n
short-take zero ks = omega arith
short-take (suc n) [] = omega arith
short-take (suc n) (k ∷ ks) = let h = short-take n ks in omega arith

pub listed : (store : Store) (s b : ℕ) → is_listing s b (take b (keys_of store s)) ≡ true
unfolding keys_of
listed store s b =
    let p : Key → Bool = λ k. eqb (slot_of k) s in
    let short : nat_le (length (take b (filter p (keys store)))) b ≡ true = le-leb _ _ (short-take b (filter p (keys store))) in
    let passed : list_all p (take b (filter p (keys store))) ≡ true = passed-take p b (filter p (keys store)) (passed-filter p (keys store)) in
    let rises : is_rising (take b (filter p (keys store))) ≡ true = rising (take b (filter p (keys store))) (rises-take b (filter p (keys store)) (rises-filter p (keys store) (rises-keys store))) in
    λ i. (short i && passed i) && rises i
