-- The maps of the slots, seen as one store: what stands at a key, what a write at one of them does, and which keys a slot has.
use Rattle.std.proofs.Common.{◌≡◌, ◌≢◌, ℕ, zero, suc, ◌+◌, ◌<◌, Bool, true, false, cond, List, [], ◌∷◌, ◌++◌, map, filter, length, get_or, set, Option, None, Some, IsSome, is_some, true≢false, Result, Ok, Err, OnOk, OnErr, refl, ap, sym, subst, ◌∙◌, arith, inl, inr}
use Rattle.std.specs.Prelude.{◌==◌}
use Rattle.std.proofs.lemmas.Bool.{cases_eq, eqb-true}
use Rattle.std.proofs.lemmas.List.{get_or-set_same, get_or-set_other, get_or_default}
use Rattle.std.proofs.Math.ListN.{length-set}
use Rattle.std.specs.Ordering.{is_eq, eq_by_cmp}
use Rattle.std.specs.Cmp.{nat_eq_equiv}
use Rattle.std.specs.FinMap.{get, find, entries, keys, entries_sorted, empty, insert, same_map, get-entries, get-empty, get-from_entries}
use Rattle.std.specs.FinMap.Entries.{where_key, find-where_key, is_sorted-where_key, same_entries}
use Rattle.key_slots.specs.HashSlot.{slot_of}
use Rattle.typed_values.specs.declared.value.Value.{Value}
use Rattle.store_commands.specs.Store.{Store, Key, write}
use Rattle.slot_keyspace.specs.Listing.{keys_of}
use Rattle.slot_keyspace.specs.Union.{entries_of, union_of, map_at, AreBySlot, empty_maps}
use Rattle.slot_keyspace.proofs.Places.{order, order-total, order-exact}
use Rattle.slot_keyspace.proofs.Writes.{get-write, write-same, tied}

abbrev first_some : Option Value → Option Value → Option Value
first_some None o = o
first_some (Some v) o = Some v

first_some-none : (o : Option Value) → first_some o None ≡ o
first_some-none None = refl
first_some-none (Some v) = refl

find-both : (q : Key) (es fs : List (Key × Value)) → find order q (es ++ fs) ≡ first_some (find order q es) (find order q fs)
find-both q [] fs = refl
find-both q (e ∷ es) fs =
    elim (is_eq (order q e.0)) as (λ b. cond b (Some e.1) (find order q (es ++ fs)) ≡ first_some (cond b (Some e.1) (find order q es)) (find order q fs))
    [ true ↦ refl | false ↦ find-both q es fs ]

find-maps : (q : Key) (m : Store) (ms : List Store) → find order q (entries_of (m ∷ ms)) ≡ first_some (get m q) (find order q (entries_of ms))
find-maps q m ms = find-both q (entries m) (entries_of ms) ∙ ap (λ o. first_some o (find order q (entries_of ms))) (sym (get-entries m q))

none_if : (o : Option Value) → (IsSome o → ⊥) → o ≡ None
none_if None h = refl
none_if (Some v) h = absurd (h refl)

-- each map holds keys of its own slot alone, where the first is that of the slot i
abbrev Own : ℕ → List Store → Type 0
Own i ms = (s : ℕ) (k : Key) → IsSome (get (map_at ms s) k) → slot_of k ≡ i + s

own_rest : (i : ℕ) (m : Store) (ms : List Store) → Own i (m ∷ ms) → Own (suc i) ms
own_rest i m ms own s k h = let e : slot_of k ≡ i + suc s = own (suc s) k h in omega arith

own_first : (i : ℕ) (m : Store) (ms : List Store) → Own i (m ∷ ms) → (k : Key) → IsSome (get m k) → slot_of k ≡ i
own_first i m ms own k h = let e : slot_of k ≡ i + 0 = own 0 k h in omega arith

find_below : (i : ℕ) (ms : List Store) → Own i ms → (q : Key) → slot_of q < i → find order q (entries_of ms) ≡ None
find_below i [] own q lt = refl
find_below i (m ∷ ms) own q lt =
    find-maps q m ms
    ∙ ap (λ o. first_some o (find order q (entries_of ms))) (none_if (get m q) (λ h. not_it (own_first i m ms own q h)))
    ∙ find_below (suc i) ms (own_rest i m ms own) q (later i lt)
  where
    not_it : slot_of q ≡ i → ⊥
    not_it e = omega arith

    later : (i : ℕ) → slot_of q < i → slot_of q < suc i
    later i lt = omega arith

find_own : (i : ℕ) (ms : List Store) → Own i ms → (q : Key) (n : ℕ) → slot_of q ≡ i + n → find order q (entries_of ms) ≡ get (map_at ms n) q
find_own i [] own q n e = sym (get-empty order q)
find_own i (m ∷ ms) own q zero e =
    find-maps q m ms
    ∙ ap (first_some (get m q)) (find_below (suc i) ms (own_rest i m ms own) q (here i e))
    ∙ first_some-none (get m q)
  where
    here : (i : ℕ) → slot_of q ≡ i + 0 → slot_of q < suc i
    here i e = omega arith
find_own i (m ∷ ms) own q (suc n) e =
    find-maps q m ms
    ∙ ap (λ o. first_some o (find order q (entries_of ms))) (none_if (get m q) (λ h. not_it (own_first i m ms own q h)))
    ∙ find_own (suc i) ms (own_rest i m ms own) q n (next i n e)
  where
    not_it : slot_of q ≡ i → ⊥
    not_it f = omega arith

    next : (i n : ℕ) → slot_of q ≡ i + suc n → slot_of q ≡ suc i + n
    next i n e = omega arith

own_all : (ms : List Store) → AreBySlot ms → Own 0 ms
own_all ms h s k some = let e : slot_of k ≡ s = h.own s k some in omega arith

-- what stands at a key stands in the map of its slot
pub get-union : (ms : List Store) → AreBySlot ms → (q : Key) → get (union_of ms) q ≡ get (map_at ms (slot_of q)) q
unfolding union_of
get-union ms h q = get-from_entries order-total (entries_of ms) q ∙ find_own 0 ms (own_all ms h) q (slot_of q) (omega arith)

-- ---- a write at one of the maps

same_slot : (q k : Key) → eq_by_cmp order q k ≡ true → slot_of q ≡ slot_of k
same_slot q k e = ap slot_of (tied q k e)

apart : (q k : Key) (b : Bool) → eq_by_cmp order q k ≡ b → slot_of q ≢ slot_of k → b ≡ false
apart q k true e other = absurd (other (same_slot q k e))
apart q k false e other = refl

module _ (ms : List Store) (s : ℕ) (m : Store) (k : Key) (o : Option Value) (h : AreBySlot ms) (inside : s < length ms) (is : s ≡ slot_of k) (done : m ≡ write (map_at ms s) k o) where
  at_slot : (t : ℕ) → t ≡ s → map_at (set ms s m) t ≡ m
  at_slot t e = ap (map_at (set ms s m)) e ∙ get_or-set_same ms s m empty inside

  elsewhere : (t : ℕ) → t ≢ s → map_at (set ms s m) t ≡ map_at ms t
  elsewhere t e = get_or-set_other ms s t m empty e

  get-done : (q : Key) → get m q ≡ cond (eq_by_cmp order q k) o (get (map_at ms s) q)
  get-done q = ap (λ n. get n q) done ∙ get-write (map_at ms s) k o q

  own_written : (t : ℕ) (q : Key) (b : Bool) → eq_by_cmp order q k ≡ b → t ≡ s → IsSome (cond b o (get (map_at ms s) q)) → slot_of q ≡ t
  own_written t q true tie e some = same_slot q k tie ∙ sym is ∙ sym e
  own_written t q false tie e some = h.own s q some ∙ sym e

  pub by_slot-write : AreBySlot (set ms s m)
  by_slot-write = record {
    width = length-set ms s m ∙ h.width;
    own = λ t q some. elim (cases_eq t s) [
      | inl e ↦ own_written t q (eq_by_cmp order q k) refl e (subst IsSome (ap (λ n. get n q) (at_slot t e) ∙ get-done q) some)
      | inr e ↦ h.own t q (subst IsSome (ap (λ n. get n q) (elsewhere t e)) some)
    ];
  }

  get-written : (q : Key) → get (map_at (set ms s m) (slot_of q)) q ≡ cond (eq_by_cmp order q k) o (get (map_at ms (slot_of q)) q)
  get-written q = elim (cases_eq (slot_of q) s) [
    | inl e ↦
        ap (λ n. get n q) (at_slot (slot_of q) e) ∙ get-done q
        ∙ ap (λ t. cond (eq_by_cmp order q k) o (get (map_at ms t) q)) (sym e)
    | inr e ↦
        ap (λ n. get n q) (elsewhere (slot_of q) e)
        ∙ ap (λ b. cond b o (get (map_at ms (slot_of q)) q)) (sym (apart q k _ refl (λ f. e (f ∙ sym is))))
  ]

  pub union-write : union_of (set ms s m) ≡ write (union_of ms) k o
  union-write =
      same_map order-total order-exact _ _
      (λ q. get-union (set ms s m) by_slot-write q ∙ get-written q
      ∙ sym (get-write (union_of ms) k o q ∙ ap (cond (eq_by_cmp order q k) o) (get-union ms h q)))

-- ---- as the program comes to the map of a slot

module _ (ms : List Store) (s : ℕ) (m : Store) (h : AreBySlot ms) (inside : s < 16384) (at : m ≡ get_or ms s m) where
  within : s < length ms
  within = let w : length ms ≡ 16384 = h.width in omega arith

  pub map-found : m ≡ map_at ms s
  map-found = at ∙ get_or_default ms s m empty within

  pub get-found : (k : Key) → s ≡ slot_of k → get m k ≡ get (union_of ms) k
  get-found k is = ap (λ n. get n k) map-found ∙ ap (λ t. get (map_at ms t) k) is ∙ sym (get-union ms h k)

  pub by_slot-changed : (n : Store) (k : Key) (o : Option Value) → s ≡ slot_of k → n ≡ write m k o → AreBySlot (set ms s n)
  by_slot-changed n k o is done = by_slot-write ms s n k o h within is (done ∙ ap (λ x. write x k o) map-found)

  pub union-changed : (n : Store) (k : Key) (o : Option Value) → s ≡ slot_of k → n ≡ write m k o → union_of (set ms s n) ≡ write (union_of ms) k o
  union-changed n k o is done = union-write ms s n k o h within is (done ∙ ap (λ x. write x k o) map-found)

  -- where a value was put, or nothing was done
  pub by_slot-put : {A E : Type 0} (r : Result A E) (n : Store) (k : Key) (v : Value) → s ≡ slot_of k → OnOk r (n ≡ insert m k v) → OnErr r (n ≡ m) → AreBySlot (set ms s n)
  by_slot-put (Ok x) n k v is ok err = by_slot-changed n k (Some v) is ok
  by_slot-put (Err e) n k v is ok err = by_slot-changed n k (get m k) is (err ∙ sym (write-same m k))

-- ---- the keys of a slot

names_kept : (p : Key → Bool) (es : List (Key × Value)) → map (λ e. e.0) (where_key order p es) ≡ filter p (map (λ e. e.0) es)
names_kept p [] = refl
names_kept p (e ∷ es) =
    elim (p e.0) as (λ b. map (λ e. e.0) (cond b (e ∷ where_key order p es) (where_key order p es)) ≡ cond b (e.0 ∷ filter p (map (λ e. e.0) es)) (filter p (map (λ e. e.0) es)))
    [ true ↦ ap (λ ks. e.0 ∷ ks) (names_kept p es) | false ↦ names_kept p es ]

-- the map of a slot is the part of the whole that has this slot
pub get-part : (ms : List Store) → AreBySlot ms → (s : ℕ) (q : Key) → get (map_at ms s) q ≡ cond (slot_of q == s) (get (union_of ms) q) None
get-part ms h s q = sym (by (slot_of q == s) refl)
  where
    clash : (slot_of q == s) ≡ false → slot_of q ≡ s → ⊥
    clash e f =
        let g : (s == s) ≡ false = ap (λ t. t == s) (sym f) ∙ e in
        let r : (s == s) ≡ true = nat_eq_equiv.refl s in
        true≢false (sym r ∙ g)

    by : (b : Bool) → (slot_of q == s) ≡ b → cond b (get (union_of ms) q) None ≡ get (map_at ms s) q
    by true e = get-union ms h q ∙ ap (λ t. get (map_at ms t) q) (eqb-true _ _ e)
    by false e = sym (none_if _ (λ some. clash e (h.own s q some)))

pub keys_of-union : (ms : List Store) → AreBySlot ms → (s : ℕ) → keys_of (union_of ms) s ≡ keys (map_at ms s)
unfolding keys_of
keys_of-union ms h s =
    sym (names_kept here (entries (union_of ms)))
    ∙ ap (map (λ e. e.0))
    (same_entries order order-total order-exact (where_key order here (entries (union_of ms))) (entries (map_at ms s))
    (is_sorted-where_key order here (entries (union_of ms)) (entries_sorted (union_of ms))) (entries_sorted (map_at ms s))
    (λ q. find-where_key order here q (λ x tie. ap here (sym (order-exact q x tie))) (entries (union_of ms))
    ∙ ap (λ o. cond (here q) o None) (sym (get-entries (union_of ms) q)) ∙ sym (get-part ms h s q) ∙ get-entries (map_at ms s) q))
  where
    here : Key → Bool
    here k = slot_of k == s

-- ---- without a key

find-empty_maps : (n : ℕ) (q : Key) → find order q (entries_of (empty_maps n)) ≡ None
unfolding empty_maps
find-empty_maps zero q = refl
find-empty_maps (suc n) q =
    find-maps q empty (empty_maps n) ∙ ap (λ o. first_some o (find order q (entries_of (empty_maps n)))) (get-empty order q) ∙ find-empty_maps n q

pub union-empty : (n : ℕ) → union_of (empty_maps n) ≡ empty
unfolding union_of
union-empty n =
    same_map order-total order-exact _ _
    (λ q. get-from_entries order-total (entries_of (empty_maps n)) q ∙ find-empty_maps n q ∙ sym (get-empty order q))

length-empty_maps : (n : ℕ) → length (empty_maps n) ≡ n
unfolding empty_maps
length-empty_maps zero = refl
length-empty_maps (suc n) = ap suc (length-empty_maps n)

map_at-empty_maps : (n s : ℕ) → map_at (empty_maps n) s ≡ empty
unfolding empty_maps
map_at-empty_maps zero s = refl
map_at-empty_maps (suc n) zero = refl
map_at-empty_maps (suc n) (suc s) = map_at-empty_maps n s

some_of_none : (o : Option Value) → o ≡ None → IsSome o → ⊥
some_of_none None e h = true≢false (sym h)
some_of_none (Some v) e h = true≢false (ap is_some e)

nothing : (k : Key) → IsSome (get {X = Value} {R = order} empty k) → ⊥
nothing k some = some_of_none _ (get-empty order k) some

pub by_slot-empty : AreBySlot (empty_maps 16384)
by_slot-empty = record {
  width = length-empty_maps 16384;
  own = λ s k some. absurd (nothing k (subst (λ m. IsSome (get m k)) (map_at-empty_maps 16384 s) some));
}

one_more : (n : ℕ) → empty_maps n ++ empty ∷ [] ≡ empty_maps (suc n)
unfolding empty_maps
one_more zero = refl
one_more (suc n) = ap (λ ms. empty ∷ ms) (one_more n)

next : (n : ℕ) → suc n ≡ n + 1
next n = omega arith

pub one_more_empty : (n : ℕ) → empty_maps n ++ empty ∷ [] ≡ empty_maps (n + 1)
one_more_empty n = one_more n ∙ ap empty_maps (next n)

pub no_maps : [] ≡ empty_maps 0
unfolding empty_maps
no_maps = refl
