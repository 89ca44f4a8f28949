-- A store with no empty collection, the batches that leave it and those that come.
use Rattle.std.proofs.Common.{◌≡◌, suc, ◌≤◌, Bool, true, false, cond, List, [], ◌∷◌, length, Option, Some, None, Result, Ok, Err, IfOk, OnErr, sym, subst, arith}
use Rattle.std.specs.FinMap.{get, insert, get-empty, get-insert}
use Rattle.std.specs.FinMap as finite
use Rattle.typed_values.specs.Values.{is_empty_collection}
use Rattle.typed_values.specs.declared.value.Value.{Value}
use Rattle.store_commands.specs.Store.{Key, Store, same_key, is_named}
use Rattle.store_commands.specs.NoEmptyCollections.{IsNoEmptyCollection, HasNoEmptyCollection}
use Rattle.store_commands.specs.Effects.{without}
use Rattle.migrate_frames.specs.Batches as frames
use Rattle.slot_keyspace.specs.Batches.{Entry, found_with, batch_of, with_entries}
use Rattle.slot_keyspace.proofs.Batches.{batch_of-more, batch_of-nil}
use Rattle.slot_keyspace.proofs.Places.{order, order-total}
use Rattle.slot_keyspace.proofs.Standing.{get-without, with_entries-more, with_entries-nil}

-- ---- a batch that leaves

found-whole : (k : Key) (o : Option Value) (es : List Entry) → IsNoEmptyCollection o → frames.HasNoEmptyCollection es → frames.HasNoEmptyCollection (found_with k o es)
found-whole k None es h g = g
found-whole k (Some v) es h g = (h, g)

pub batch-whole : (s : Store) (ks : List Key) → HasNoEmptyCollection s → frames.HasNoEmptyCollection (batch_of s ks)
batch-whole s [] h = subst frames.HasNoEmptyCollection (sym (batch_of-nil s)) tt
batch-whole s (k ∷ ks) h = subst frames.HasNoEmptyCollection (sym (batch_of-more s k ks)) (found-whole k (get s k) (batch_of s ks) (h k) (batch-whole s ks h))

found-few : (k : Key) (o : Option Value) (es : List Entry) → length (found_with k o es) ≤ suc (length es)
found-few k None es = omega arith
found-few k (Some v) es = omega arith

pub batch-few : (s : Store) (ks : List Key) → length (batch_of s ks) ≤ length ks
batch-few s [] = subst (λ es. length es ≤ 0) (sym (batch_of-nil s)) (omega arith)
batch-few s (k ∷ ks) =
    let here = found-few k (get s k) (batch_of s ks) in
    let rest = batch-few s ks in
    subst (λ es. length es ≤ suc (length ks)) (sym (batch_of-more s k ks)) (omega (arith, here, rest))

-- ---- stores

pub empty-whole : HasNoEmptyCollection finite.empty
empty-whole k = subst IsNoEmptyCollection (sym (get-empty order k)) tt

chosen : (b : Bool) (v d : Option Value) → IsNoEmptyCollection v → IsNoEmptyCollection d → IsNoEmptyCollection (cond b v d)
chosen true v d h g = h
chosen false v d h g = g

insert-whole : (s : Store) (k : Key) (v : Value) → is_empty_collection v ≡ false → HasNoEmptyCollection s → HasNoEmptyCollection (insert s k v)
insert-whole s k v h g q = subst IsNoEmptyCollection (sym (get-insert order-total s k v q)) (chosen (same_key q k) (Some v) (get s q) h (g q))

pub with_entries-whole : (s : Store) (es : List Entry) → frames.HasNoEmptyCollection es → HasNoEmptyCollection s → HasNoEmptyCollection (with_entries s es)
with_entries-whole s [] h g = subst HasNoEmptyCollection (sym (with_entries-nil s)) g
with_entries-whole s (e ∷ es) h g = subst HasNoEmptyCollection (sym (with_entries-more s e es)) (with_entries-whole (insert s e.0 e.1) es h.1 (insert-whole s e.0 e.1 h.0 g))

pub without-whole : (s : Store) (ks : List Key) → HasNoEmptyCollection s → HasNoEmptyCollection (without s ks)
without-whole s ks g q = subst IsNoEmptyCollection (sym (get-without s ks q)) (chosen (is_named q ks) None (get s q) tt (g q))

-- a call that was done, or not, and left the store
pub whole_by : {A E : Type 0} (r : Result A E) (new after before : Store) → IfOk r (λ _. new ≡ after) → OnErr r (new ≡ before) → HasNoEmptyCollection after → HasNoEmptyCollection before → HasNoEmptyCollection new
whole_by (Ok x) new after before ok err h g = subst HasNoEmptyCollection (sym ok) h
whole_by (Err e) new after before ok err h g = subst HasNoEmptyCollection (sym err) g
