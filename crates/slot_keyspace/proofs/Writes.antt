-- Writes at distinct keys, and what takes one back.
use Rattle.std.proofs.Common.{◌≡◌, Bool, true, false, cond, List, [], ◌∷◌, Option, None, Some, IsSome, refl, ap, sym, subst, ◌∙◌, nat_eq, Result, Ok, Err, OnErr}
use Rattle.std.specs.Ordering.{eq_by_cmp}
use Rattle.std.specs.Cmp.{eq_by_cmp_equiv, Equal-is, nat_eq_equiv}
use Rattle.std.specs.Cmp.Lexicographic.{pointwise, lists_equiv}
use Rattle.std.specs.List.{IsDistinct, AllByRecursion}
use Rattle.std.specs.FinMap.{get, insert, remove, get-insert, get-remove, same_map}
use Rattle.typed_values.specs.declared.value.Value.{Value}
use Rattle.store_commands.specs.Store.{Store, Key, Write, write, after_writes, keys_written, HasDistinctKeys}
use Rattle.slot_keyspace.proofs.Places.{order, order-total, order-exact}

pub here : (k : Key) → eq_by_cmp order k k ≡ true
here k = (eq_by_cmp_equiv order-total).refl k

pub get-insert_here : (s : Store) (k : Key) (v : Value) → get (insert s k v) k ≡ Some v
get-insert_here s k v = get-insert order-total s k v k ∙ ap (λ b. cond b (Some v) (get s k)) (here k)

pub get-insert_some : (s : Store) (k : Key) (v : Value) → IsSome (get (insert s k v) k)
get-insert_some s k v = subst IsSome (sym (get-insert_here s k v)) refl

-- a key that ties is the key
pub tied : (q k : Key) → eq_by_cmp order q k ≡ true → q ≡ k
tied q k e = order-exact q k ((Equal-is (order q k)).0 e)

undone : (s : Store) (k q : Key) (v : Value) (b : Bool) → eq_by_cmp order q k ≡ b → (old : Option Value) → old ≡ get s k → cond b old (cond b (Some v) (get s q)) ≡ get s q
undone s k q v true e old is = is ∙ ap (get s) (sym (tied q k e))
undone s k q v false e old is = refl

pub put_back-undoes : (s : Store) (k : Key) (v : Value) (old : Option Value) → old ≡ get s k → write (insert s k v) k old ≡ s
put_back-undoes s k v None is =
    same_map order-total order-exact _ _
    (λ q. get-remove order-total (insert s k v) k q
    ∙ ap (cond (eq_by_cmp order q k) None) (get-insert order-total s k v q)
    ∙ undone s k q v (eq_by_cmp order q k) refl None is)
put_back-undoes s k v (Some w) is =
    same_map order-total order-exact _ _
    (λ q. get-insert order-total (insert s k v) k w q
    ∙ ap (cond (eq_by_cmp order q k) (Some w)) (get-insert order-total s k v q)
    ∙ undone s k q v (eq_by_cmp order q k) refl (Some w) is)

twice : (b : Bool) (x y z : Option Value) → cond b x (cond b y z) ≡ cond b x z
twice true x y z = refl
twice false x y z = refl

kept : (s : Store) (k q : Key) (b : Bool) → eq_by_cmp order q k ≡ b → cond b (get s k) (get s q) ≡ get s q
kept s k q true e = ap (get s) (sym (tied q k e))
kept s k q false e = refl

pub absurd_apart : (k : Key) → pointwise nat_eq k k ≡ false → true ≡ false
absurd_apart k e = sym ((lists_equiv nat_eq_equiv).refl k) ∙ e

-- no key ties with both of two keys that differ
swapped : (j k q : Key) → pointwise nat_eq k j ≡ false → (a b : Bool) → eq_by_cmp order q k ≡ a → eq_by_cmp order q j ≡ b → (x y z : Option Value) → cond b x (cond a y z) ≡ cond a y (cond b x z)
swapped j k q apart true true e f x y z =
    let same : k ≡ j = sym (tied q k e) ∙ tied q j f in
    let h : true ≡ false = absurd_apart k (subst (λ i. pointwise nat_eq k i ≡ false) (sym same) apart) in
    cc
swapped j k q apart true false e f x y z = refl
swapped j k q apart false b e f x y z = refl

pub get-write : (s : Store) (k : Key) (o : Option Value) (q : Key) → get (write s k o) q ≡ cond (eq_by_cmp order q k) o (get s q)
get-write s k None q = get-remove order-total s k q
get-write s k (Some v) q = get-insert order-total s k v q

-- the later of two writes at a key stands
pub write-again : (s : Store) (k : Key) (p o : Option Value) → write (write s k p) k o ≡ write s k o
write-again s k p o =
    same_map order-total order-exact _ _
    (λ q. get-write (write s k p) k o q
    ∙ ap (cond (eq_by_cmp order q k) o) (get-write s k p q)
    ∙ twice (eq_by_cmp order q k) o p (get s q)
    ∙ sym (get-write s k o q))

-- writes at two keys in either order
pub write-commutes : (s : Store) (j k : Key) (p o : Option Value) → pointwise nat_eq k j ≡ false → write (write s k o) j p ≡ write (write s j p) k o
write-commutes s j k p o apart =
    same_map order-total order-exact _ _
    (λ q. get-write (write s k o) j p q
    ∙ ap (cond (eq_by_cmp order q j) p) (get-write s k o q)
    ∙ swapped j k q apart _ _ refl refl p o (get s q)
    ∙ sym (get-write (write s j p) k o q ∙ ap (cond (eq_by_cmp order q k) o) (get-write s j p q)))

pub written-write : (s : Store) (k : Key) (o : Option Value) (ws : List Write) → AllByRecursion (λ j. pointwise nat_eq k j ≡ false) (keys_written ws) → after_writes (write s k o) ws ≡ write (after_writes s ws) k o
written-write s k o [] h = refl
written-write s k o (w ∷ ws) h = ap (λ t. after_writes t ws) (write-commutes s w.0 k w.1 o h.0) ∙ written-write (write s w.0 w.1) k o ws h.1

pub write-same : (s : Store) (k : Key) → write s k (get s k) ≡ s
write-same s k = same_map order-total order-exact _ _ (λ q. get-write s k (get s k) q ∙ kept s k q (eq_by_cmp order q k) refl)

pub write-remove : (s : Store) (j k : Key) (o : Option Value) → pointwise nat_eq k j ≡ false → write (remove s k) j o ≡ remove (write s j o) k
write-remove s j k None apart =
    same_map order-total order-exact _ _
    (λ q. get-remove order-total (remove s k) j q
    ∙ ap (cond (eq_by_cmp order q j) None) (get-remove order-total s k q)
    ∙ swapped j k q apart _ _ refl refl None None (get s q)
    ∙ sym (get-remove order-total (remove s j) k q ∙ ap (cond (eq_by_cmp order q k) None) (get-remove order-total s j q)))
write-remove s j k (Some v) apart =
    same_map order-total order-exact _ _
    (λ q. get-insert order-total (remove s k) j v q
    ∙ ap (cond (eq_by_cmp order q j) (Some v)) (get-remove order-total s k q)
    ∙ swapped j k q apart _ _ refl refl (Some v) None (get s q)
    ∙ sym (get-remove order-total (insert s j v) k q ∙ ap (cond (eq_by_cmp order q k) None) (get-insert order-total s j v q)))

pub written-remove : (s : Store) (k : Key) (ws : List Write) → AllByRecursion (λ j. pointwise nat_eq k j ≡ false) (keys_written ws) → after_writes (remove s k) ws ≡ remove (after_writes s ws) k
written-remove s k [] h = refl
written-remove s k (w ∷ ws) h = ap (λ t. after_writes t ws) (write-remove s w.0 k w.1 h.0) ∙ written-remove (write s w.0 w.1) k ws h.1

pub distinct_head : (w : Write) (ws : List Write) → HasDistinctKeys (w ∷ ws) → AllByRecursion (λ j. pointwise nat_eq w.0 j ≡ false) (keys_written ws)
unfolding IsDistinct
distinct_head w ws h = h.0

pub distinct_rest : (w : Write) (ws : List Write) → HasDistinctKeys (w ∷ ws) → HasDistinctKeys ws
unfolding IsDistinct
distinct_rest w ws h = h.1

-- where the other writes fail, the value that was put is there
pub put_value_is_there : {A E : Type 0} (r : Result A E) (s m n : Store) (k i j : Key) (v : Value) → m ≡ insert s i v → i ≡ k → j ≡ k → OnErr r (n ≡ m) → OnErr r (IsSome (get n j))
put_value_is_there (Ok x) s m n k i j v put at_i at_j h = h
put_value_is_there (Err e) s m n k i j v put at_i at_j same = rw (same, put, at_i, at_j) (get-insert_some s k v)

-- and once it is taken back, all is as before
pub all_is_undone : {A E : Type 0} (r q : Result A E) (s m n o : Store) (k i j : Key) (v : Value) (old : Option Value) → m ≡ insert s i v → old ≡ get s i → i ≡ k → j ≡ k → OnErr r (n ≡ m) → q ≡ r → OnErr r (o ≡ write n j old) → OnErr q (o ≡ s)
all_is_undone (Ok x) q s m n o k i j v old put was at_i at_j h is g = rw is g
all_is_undone (Err e) q s m n o k i j v old put was at_i at_j same is back =
    rw is (rw (back, same, put, at_i, at_j) (put_back-undoes s k v old (was ∙ ap (get s) at_i)))
