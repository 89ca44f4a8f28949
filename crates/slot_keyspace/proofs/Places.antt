-- What the calls of the ordered map do to the store that it is seen as.
use Rattle.std.proofs.Common.{◌≡◌, ℕ, Bool, true, false, cond, List, [], ◌∷◌, Option, None, Some, IsSome, MutBor, refl, ap, sym, subst, ◌∙◌, Vec, Global}
use Rattle.std.specs.declared.cmp.Ordering.{Ordering}
use Rattle.std.specs.declared.cmp.Ordering.TheVariants.{Less, Equal, Greater}
use Rattle.std.specs.Ordering.{nat_cmp, is_eq, eq_by_cmp, match_ordering}
use Rattle.std.specs.Cmp.{IsTotalOrder, eq_by_cmp_equiv, Equal-is}
use Rattle.std.specs.Cmp.Lexicographic.{slice_cmp, nat_list_cmp_total}
use Rattle.std.specs.List.{AllByRecursion}
use Rattle.std.specs.List.Sorted.{IsStrictlySortedBy}
use Rattle.std.specs.Map.{lookup, keys_of, remove_entry, set_value}
use Rattle.std.specs.Option.{option_copied_mut}
use Rattle.std.specs.BTreeMap.{insert_entry, is_at}
use Rattle.std.proofs.lemmas.Map.{lookup-remove_entry, lookup-set_value}
use Rattle.std.proofs.lemmas.Map.Keys.{IsDistinct-from_sorted}
use Rattle.std.specs.FinMap.{get, insert, remove, find, put, get-from_entries, get-insert, get-remove, same_map, slice_cmp-IsAntisymmetric, nat_cmp-IsAntisymmetric, IsAntisymmetric}
use Rattle.std.specs.FinMap.Entries.{find-put, by_order}
use Rattle.typed_values.specs.declared.value.Value.{Value}
use Rattle.store_commands.specs.Store.{Key}
use Rattle.slot_keyspace.specs.KeyspaceView.{pairs_of, store_of}

abbrev pub order : Key → Key → Ordering
order = slice_cmp nat_cmp

pub order-total : IsTotalOrder order
order-total = nat_list_cmp_total

pub order-exact : IsAntisymmetric order
order-exact = slice_cmp-IsAntisymmetric nat_cmp-IsAntisymmetric

abbrev pub Entries : Type 0
Entries = List (Vec ℕ Global × Value)

-- the order of the program's keys
abbrev pub key_order : Vec ℕ Global → Vec ℕ Global → Ordering
key_order x y = slice_cmp nat_cmp x.items y.items

pub find-pairs_of : (q : Key) (es : Entries) → find order q (pairs_of es) ≡ lookup (is_at (λ k. slice_cmp nat_cmp q k.items)) es
find-pairs_of q [] = refl
find-pairs_of q (e ∷ es) = ap (cond (is_eq (order q e.0.items)) (Some e.1)) (find-pairs_of q es)

pub find-lookup : (q : Key) (es : List (Key × Value)) → find order q es ≡ lookup (eq_by_cmp order q) es
find-lookup q [] = refl
find-lookup q (e ∷ es) = ap (cond (is_eq (order q e.0)) (Some e.1)) (find-lookup q es)

pub get-store_of : (es : Entries) (q : Key) → get (store_of es) q ≡ lookup (is_at (λ k. slice_cmp nat_cmp q k.items)) es
get-store_of es q = get-from_entries order-total (pairs_of es) q ∙ find-pairs_of q es

pub pairs_of-insert_entry : (es : Entries) (k : Vec ℕ Global) (v : Value) → pairs_of (insert_entry key_order es k v) ≡ put order k.items v (pairs_of es)
pairs_of-insert_entry [] k v = refl
pairs_of-insert_entry (e ∷ es) k v =
    elim (order k.items e.0.items) as (λ r. pairs_of (match_ordering r ((k, v) ∷ e ∷ es) ((e.0, v) ∷ es) (e ∷ insert_entry key_order es k v))
    ≡ by_order r ((k.items, v) ∷ (e.0.items, e.1) ∷ pairs_of es) ((e.0.items, v) ∷ pairs_of es) ((e.0.items, e.1) ∷ put order k.items v (pairs_of es)))
    [ Less ↦ refl | Equal ↦ refl | Greater ↦ ap (λ r. (e.0.items, e.1) ∷ r) (pairs_of-insert_entry es k v) ]

pub store_of-insert_entry : (es : Entries) (k : Vec ℕ Global) (v : Value) → store_of (insert_entry key_order es k v) ≡ insert (store_of es) k.items v
store_of-insert_entry es k v =
    same_map order-total order-exact _ _
    (λ q. get-from_entries order-total (pairs_of (insert_entry key_order es k v)) q
    ∙ ap (find order q) (pairs_of-insert_entry es k v)
    ∙ find-put order order-total q k.items v (pairs_of es)
    ∙ ap (cond (eq_by_cmp order q k.items) (Some v)) (sym (get-from_entries order-total (pairs_of es) q))
    ∙ sym (get-insert order-total (store_of es) k.items v q))

abbrev pub key_test : Key → Vec ℕ Global → Bool
key_test q = is_at (λ k. slice_cmp nat_cmp q k.items)

pub pairs_of-set_value : (q : Key) (es : Entries) (w : Value) → pairs_of (set_value (key_test q) es w) ≡ set_value (eq_by_cmp order q) (pairs_of es) w
pairs_of-set_value q [] w = refl
pairs_of-set_value q (e ∷ es) w =
    elim (is_eq (order q e.0.items)) as (λ b. pairs_of (cond b ((e.0, w) ∷ es) (e ∷ set_value (key_test q) es w)) ≡ cond b ((e.0.items, w) ∷ pairs_of es) ((e.0.items, e.1) ∷ set_value (eq_by_cmp order q) (pairs_of es) w))
    [ true ↦ refl | false ↦ ap (λ r. (e.0.items, e.1) ∷ r) (pairs_of-set_value q es w) ]

pub pairs_of-remove_entry : (q : Key) (es : Entries) → pairs_of (remove_entry (key_test q) es) ≡ remove_entry (eq_by_cmp order q) (pairs_of es)
pairs_of-remove_entry q [] = refl
pairs_of-remove_entry q (e ∷ es) =
    elim (is_eq (order q e.0.items)) as (λ b. pairs_of (cond b es (e ∷ remove_entry (key_test q) es)) ≡ cond b (pairs_of es) ((e.0.items, e.1) ∷ remove_entry (eq_by_cmp order q) (pairs_of es)))
    [ true ↦ refl | false ↦ ap (λ r. (e.0.items, e.1) ∷ r) (pairs_of-remove_entry q es) ]

-- the tests of two keys that tie agree
same_test : (q x y : Key) → eq_by_cmp order q x ≡ true → eq_by_cmp order q y ≡ eq_by_cmp order x y
same_test q x y e = ap is_eq (order-total.congr q x y ((Equal-is (order q x)).0 e))

flips : (x y : Key) → eq_by_cmp order x y ≡ eq_by_cmp order y x
flips x y = (eq_by_cmp_equiv order-total).symm x y

pub store_of-set_value : (q : Key) (es : Entries) (w : Value) → IsSome (get (store_of es) q) → store_of (set_value (key_test q) es w) ≡ insert (store_of es) q w
store_of-set_value k es w h =
    same_map order-total order-exact _ _
    (λ q. get-from_entries order-total (pairs_of (set_value (key_test k) es w)) q
    ∙ ap (find order q) (pairs_of-set_value k es w)
    ∙ find-lookup q _
    ∙ lookup-set_value (eq_by_cmp_equiv order-total) (eq_by_cmp order k) (same_test k) q w (pairs_of es) (subst IsSome (get-from_entries order-total (pairs_of es) k ∙ find-lookup k (pairs_of es)) h)
    ∙ (λ i. cond (flips k q i) (Some w) (sym (find-lookup q (pairs_of es)) i))
    ∙ ap (cond (eq_by_cmp order q k) (Some w)) (sym (get-from_entries order-total (pairs_of es) q))
    ∙ sym (get-insert order-total (store_of es) k w q))

apart-pairs_of : (k : Vec ℕ Global) (es : Entries) → AllByRecursion (λ y. key_order k y ≡ Less) (keys_of es) → AllByRecursion (λ y. order k.items y ≡ Less) (keys_of (pairs_of es))
apart-pairs_of k [] h = tt
apart-pairs_of k (e ∷ es) h = (h.0, apart-pairs_of k es h.1)

pub sorted-pairs_of : (es : Entries) → IsStrictlySortedBy key_order (keys_of es) → IsStrictlySortedBy order (keys_of (pairs_of es))
unfolding IsStrictlySortedBy
sorted-pairs_of [] h = tt
sorted-pairs_of (e ∷ es) h = (apart-pairs_of e.0 es h.0, sorted-pairs_of es h.1)

pub store_of-remove_entry : (q : Key) (es : Entries) → IsStrictlySortedBy key_order (keys_of es) → store_of (remove_entry (key_test q) es) ≡ remove (store_of es) q
store_of-remove_entry k es h =
    same_map order-total order-exact _ _
    (λ q. get-from_entries order-total (pairs_of (remove_entry (key_test k) es)) q
    ∙ ap (find order q) (pairs_of-remove_entry k es)
    ∙ find-lookup q _
    ∙ lookup-remove_entry (eq_by_cmp_equiv order-total) (eq_by_cmp order k) (same_test k) q (pairs_of es) (IsDistinct-from_sorted order _ (sorted-pairs_of es h))
    ∙ (λ i. cond (flips k q i) None (sym (find-lookup q (pairs_of es)) i))
    ∙ ap (cond (eq_by_cmp order q k) None) (sym (get-from_entries order-total (pairs_of es) q))
    ∙ sym (get-remove order-total (store_of es) k q))

pub some_lent : {V : Type 0} (r : Option (MutBor V)) → IsSome (option_copied_mut r) → IsSome r
some_lent None h = h
some_lent (Some x) h = h
