-- The keys of a slot, as the ordered map comes to them.
use Rattle.std.proofs.Common.{◌≡◌, T, ℕ, suc, ◌+◌, ◌-◌, ◌<◌, true, ◌&&◌, List, [], ◌∷◌, ◌++◌, map, take, length, refl, ap, sym, subst, ◌∙◌, Vec, Global, arith, append_assoc, append-nil, length-append}
use Rattle.std.proofs.Math.Seq.{take-nil}
use Rattle.std.specs.Ordering.{is_lt}
use Rattle.std.specs.List.{AllByRecursion}
use Rattle.std.specs.List.Sorted.{IsStrictlySortedBy}
use Rattle.std.specs.Map as tree
use Rattle.std.specs.FinMap.{keys, from_sorted, is_sorted, same_map, get-from_entries, get-from_sorted, entries-from_sorted}
use Rattle.std.specs.FinMap.Entries.{below_all}
use Rattle.std.specs.declared.cmp.Ordering.TheVariants.{Less}
use Rattle.typed_values.specs.declared.value.Value.{Value}
use Rattle.store_commands.specs.Store.{Key}
use Rattle.slot_keyspace.specs.KeyspaceView.{pairs_of, store_of}
use Rattle.slot_keyspace.proofs.Places.{order, order-total, order-exact, Entries, key_order, sorted-pairs_of}

below_is : (k : Key) (es : List (Key × Value)) → AllByRecursion (λ y. order k y ≡ Less) (tree.keys_of es) → below_all order k es ≡ true
below_is k [] h = refl
below_is k (e ∷ es) h = ap (λ r. is_lt r && below_all order k es) h.0 ∙ below_is k es h.1

sorted_is : (es : List (Key × Value)) → IsStrictlySortedBy order (tree.keys_of es) → is_sorted order es ≡ true
unfolding IsStrictlySortedBy
sorted_is [] h = refl
sorted_is (e ∷ es) h = ap (λ b. b && is_sorted order es) (below_is e.0 es h.0) ∙ sorted_is es h.1

abbrev pub items_of : List (Vec ℕ Global) → List Key
items_of ks = map (λ (k : Vec ℕ Global). k.items) ks

names : (es : Entries) → map (λ e. e.0) (pairs_of es) ≡ items_of (tree.keys_of es)
names [] = refl
names (e ∷ es) = ap (λ ks. e.0.items ∷ ks) (names es)

-- the store of an ordered map has its keys, in its order
pub keys-store_of : (es : Entries) → IsStrictlySortedBy key_order (tree.keys_of es) → keys (store_of es) ≡ items_of (tree.keys_of es)
keys-store_of es h =
    let e = sorted_is (pairs_of es) (sorted-pairs_of es h) in
    let same : store_of es ≡ from_sorted {R = order} (pairs_of es) =
    same_map order-total order-exact _ _ (λ q. get-from_entries order-total (pairs_of es) q ∙ sym (get-from_sorted order (pairs_of es) q (subst T (sym e) tt))) in
    ap keys same ∙ ap (map (λ e. e.0)) (entries-from_sorted order (pairs_of es) (subst T (sym e) tt)) ∙ names es

items-count : (es : Entries) → length (items_of (tree.keys_of es)) ≡ length es
items-count [] = refl
items-count (e ∷ es) = ap suc (items-count es)

-- an ordered map has as many keys as entries
pub count-store_of : (es : Entries) → IsStrictlySortedBy key_order (tree.keys_of es) → length es ≡ length (keys (store_of es))
count-store_of es h = sym (items-count es) ∙ ap length (sym (keys-store_of es h))

-- ---- the first keys: those found so far, and the first of the rest

abbrev pub first_of : ℕ → List Key → List (Vec ℕ Global) → List Key
first_of count found rest = found ++ take (count - length found) (items_of rest)

count_down : (n m : ℕ) → m < n → n - m ≡ suc (n - (m + 1))
count_down n m h = omega arith

one_longer : (found : List Key) (t : Key) → length (found ++ t ∷ []) ≡ length found + 1
one_longer found t = length-append found (t ∷ [])

pub first_of-found : (count : ℕ) (found : List Key) (t : Key) (k : Vec ℕ Global) (rest : List (Vec ℕ Global)) → t ≡ k.items → length found < count
    → first_of count (found ++ t ∷ []) rest ≡ first_of count found (k ∷ rest)
first_of-found count found t k rest is lt =
    let m = count - (length found + 1) in
    append_assoc found (t ∷ []) _
    ∙ ap (λ n. found ++ t ∷ take (count - n) (items_of rest)) (one_longer found t)
    ∙ ap (λ x. found ++ x ∷ take m (items_of rest)) is
    ∙ ap (λ n. found ++ take n (k.items ∷ items_of rest)) (sym (count_down count (length found) lt))

pub first_of-full : (count : ℕ) (found : List Key) (rest : List (Vec ℕ Global)) → length found ≡ count → first_of count found rest ≡ found
first_of-full count found rest e =
    let none : count - length found ≡ 0 = omega arith in
    ap (λ n. found ++ take n (items_of rest)) none ∙ append-nil found

pub first_of-end : (count : ℕ) (found : List Key) (rest : List (Vec ℕ Global)) → rest ≡ [] → first_of count found rest ≡ found
first_of-end count found rest e = ap (first_of count found) e ∙ ap (λ ks. found ++ ks) (take-nil (count - length found)) ∙ append-nil found

less_none : (n : ℕ) → n - 0 ≡ n
less_none n = omega arith

pub first_of-start : (count : ℕ) (rest : List (Vec ℕ Global)) → first_of count [] rest ≡ take count (items_of rest)
first_of-start count rest = ap (λ n. take n (items_of rest)) (less_none count)
