-- Keys that a node listed can be named by a MIGRATE.
use Rattle.std.proofs.Common.{◌≡◌, ℕ, ◌<◌, ◌≤◌, true, eqb, ◌&&◌, List, [], ◌∷◌, length, sym, refl, subst, arith, Ordering, Less, Equal, Greater}
use Rattle.std.specs.Prelude.{nat_le}
use Rattle.std.specs.Ordering.{is_lt}
use Rattle.std.specs.Cmp.Lexicographic.{nat_list_cmp_total}
use Rattle.std.specs.List.{list_all, IsDistinct, All, AllByRecursion}
use Rattle.std.specs.List.Sorted.{IsStrictlySortedBy}
use Rattle.std.proofs.lemmas.Bool.{and_parts, true≢false, eqb-true, leb-true}
use Rattle.std.proofs.lemmas.Map.Keys.{IsDistinct-from_sorted}
use Rattle.std.proofs.lemmas.Map.Text.{is_eq-slice_cmp}
use Rattle.std.proofs.lemmas.List.Sums.{AllPass-from_list_all}
use Rattle.key_slots.specs.HashSlot.{slot_of}
use Rattle.cluster_admin.specs.Keys.{Key, order}
use Rattle.cluster_admin.specs.Commands.{AreMovable}
use Rattle.plan_runner.specs.Listings.{is_listing, is_rising}

less : (r : Ordering) → is_lt r ≡ true → r ≡ Less
less Less e = refl
less Equal e = absurd (true≢false (sym e))
less Greater e = absurd (true≢false (sym e))

below : (k q : Key) (ks : List Key) → order k q ≡ Less → AllByRecursion (λ y. order q y ≡ Less) ks → AllByRecursion (λ y. order k y ≡ Less) ks
below k q [] e h = tt
below k q (x ∷ ks) e h = (nat_list_cmp_total.trans k q x e h.0, below k q ks e h.1)

sorted : (ks : List Key) → is_rising ks ≡ true → IsStrictlySortedBy order ks
unfolding is_rising IsStrictlySortedBy
sorted [] e = tt
sorted (k ∷ []) e = (tt, tt)
sorted (k ∷ (q ∷ ks)) e =
    let p = and_parts (is_lt (order k q)) (is_rising (q ∷ ks)) e in
    let first : order k q ≡ Less = less (order k q) p.0 in
    let rest : IsStrictlySortedBy order (q ∷ ks) = sorted (q ∷ ks) p.1 in
    ((first, below k q ks first rest.0), rest)

first_of : (s : ℕ) (k : Key) (ks : List Key) → list_all (λ q. eqb (slot_of q) s) (k ∷ ks) ≡ true → slot_of k ≡ s
first_of s k ks e = eqb-true (slot_of k) s (and_parts (eqb (slot_of k) s) (list_all (λ q. eqb (slot_of q) s) ks) e).0

pub listing_moves : (s b : ℕ) (ks : List Key) → 0 < length ks → b ≤ 1000 → is_listing s b ks ≡ true → AreMovable ks
listing_moves s b [] some few e = absurd (omega arith)
listing_moves s b (k ∷ ks) some few e =
    let p = and_parts (nat_le (length (k ∷ ks)) b && list_all (λ q. eqb (slot_of q) s) (k ∷ ks)) (is_rising (k ∷ ks)) e in
    let q = and_parts (nat_le (length (k ∷ ks)) b) (list_all (λ q. eqb (slot_of q) s) (k ∷ ks)) p.0 in
    let most : length (k ∷ ks) ≤ b = leb-true (length (k ∷ ks)) b q.0 in
    let first : slot_of k ≡ s = first_of s k ks q.1 in
    record {
      some = some;
      most = omega arith;
      distinct = subst (λ f. IsDistinct f (k ∷ ks)) (λ i x y. is_eq-slice_cmp x y i) (IsDistinct-from_sorted order (k ∷ ks) (sorted (k ∷ ks) p.1));
      one_slot = subst (λ t. All (λ x. slot_of x ≡ t) (k ∷ ks)) (sym first) (each (AllPass-from_list_all (λ q. eqb (slot_of q) s) (k ∷ ks) q.1));
    }
  where
    each : All (λ x. eqb (slot_of x) s ≡ true) (k ∷ ks) → All (λ x. slot_of x ≡ s) (k ∷ ks)
    each h = λ i d l. eqb-true _ s (h i d l)
