-- What stands at a key after a batch went, and which keys a slot's list has.
use Rattle.std.proofs.Common.{◌≡◌, ℕ, Bool, true, false, cond, ◌||◌, ◌&&◌, List, [], ◌∷◌, filter, Option, Some, None, is_some, sym, refl, ap, ◌∙◌}
use Rattle.std.specs.Prelude.{◌==◌}
use Rattle.std.specs.List.{list_any}
use Rattle.std.specs.FinMap.{get, insert, remove, keys, contains_key-keys, get-insert, get-remove}
use Rattle.key_slots.specs.HashSlot.{slot_of}
use Rattle.typed_values.specs.declared.value.Value.{Value}
use Rattle.store_commands.specs.Store.{Key, Store, same_key, is_named}
use Rattle.store_commands.specs.Effects.{without}
use Rattle.slot_keyspace.specs.Listing.{keys_of}
use Rattle.slot_keyspace.specs.Batches.{Entry, found_with, batch_of, with_entries}
use Rattle.slot_keyspace.proofs.Batches.{batch_of-more, batch_of-nil}
use Rattle.slot_keyspace.proofs.Places.{order-total}
use Rattle.slot_keyspace.proofs.Writes.{tied}

-- ---- a batch that leaves

gone : (a b : Bool) (o : Option Value) → cond b None (cond a None o) ≡ cond (a || b) None o
gone true true o = refl
gone true false o = refl
gone false b o = refl

pub get-without : (s : Store) (ks : List Key) (q : Key) → get (without s ks) q ≡ cond (is_named q ks) None (get s q)
get-without s [] q = refl
get-without s (k ∷ ks) q = get-without (remove s k) ks q ∙ ap (cond (is_named q ks) None) (get-remove order-total s k q) ∙ gone (same_key q k) (is_named q ks) (get s q)

-- ---- a batch that comes

pub with_entries-nil : (s : Store) → with_entries s [] ≡ s
unfolding with_entries
with_entries-nil s = refl

pub with_entries-more : (s : Store) (e : Entry) (es : List Entry) → with_entries s (e ∷ es) ≡ with_entries (insert s e.0 e.1) es
unfolding with_entries
with_entries-more s e es = refl

-- a key that is put again gets what it has
came : (a n : Bool) (from o : Option Value) (v : Value) → (a ≡ true → from ≡ Some v) → cond (n && is_some from) from (cond a (Some v) o) ≡ cond ((a || n) && is_some from) from o
came true n from o v h = rw (h refl) (by n)
  where
    by : (n : Bool) → cond (n && true) (Some v) (Some v) ≡ Some v
    by true = refl
    by false = refl
came false n from o v h = refl

-- a key at which nothing stands does not come
stayed : (a n : Bool) (from o : Option Value) → (a ≡ true → from ≡ None) → cond (n && is_some from) from o ≡ cond ((a || n) && is_some from) from o
stayed true n from o h = rw (h refl) (by n)
  where
    by : (n : Bool) → cond (n && false) None o ≡ o
    by true = refl
    by false = refl
stayed false n from o h = refl

pub get-with_batch : (s from : Store) (ks : List Key) (q : Key) → get (with_entries s (batch_of from ks)) q ≡ cond (is_named q ks && is_some (get from q)) (get from q) (get s q)
get-with_batch s from [] q = ap (λ es. get (with_entries s es) q) (batch_of-nil from) ∙ ap (λ t. get t q) (with_entries-nil s)
get-with_batch s from (k ∷ ks) q = ap (λ es. get (with_entries s es) q) (batch_of-more from k ks) ∙ by (get from k) refl (get-with_batch s from ks q) (λ v. get-with_batch (insert s k v) from ks q)
  where
    by : (o : Option Value) → get from k ≡ o
        → get (with_entries s (batch_of from ks)) q ≡ cond (is_named q ks && is_some (get from q)) (get from q) (get s q)
        → ((v : Value) → get (with_entries (insert s k v) (batch_of from ks)) q ≡ cond (is_named q ks && is_some (get from q)) (get from q) (get (insert s k v) q))
        → get (with_entries s (found_with k o (batch_of from ks))) q ≡ cond (is_named q (k ∷ ks) && is_some (get from q)) (get from q) (get s q)
    by None e rest more = rest ∙ stayed (same_key q k) (is_named q ks) (get from q) (get s q) (λ t. ap (get from) (tied q k t) ∙ e)
    by (Some v) e rest more =
        ap (λ t. get t q) (with_entries-more s (k, v) (batch_of from ks)) ∙ more v
        ∙ ap (cond (is_named q ks && is_some (get from q)) (get from q)) (get-insert order-total s k v q)
        ∙ came (same_key q k) (is_named q ks) (get from q) (get s q) v (λ t. ap (get from) (tied q k t) ∙ e)

-- ---- the keys of a slot

named_any : (q : Key) (ks : List Key) → list_any (same_key q) ks ≡ is_named q ks
named_any q [] = refl
named_any q (k ∷ ks) = ap (λ b. same_key q k || b) (named_any q ks)

pub named-keys : (s : Store) (q : Key) → is_some (get s q) ≡ is_named q (keys s)
named-keys s q = contains_key-keys s q ∙ named_any q (keys s)

passing : (p : Key → Bool) (x : Key) (xs : List Key) (q : Key) (b : Bool) → is_named q (cond b (x ∷ filter p xs) (filter p xs)) ≡ cond b (same_key q x || is_named q (filter p xs)) (is_named q (filter p xs))
passing p x xs q true = refl
passing p x xs q false = refl

passed : (a b n wanted : Bool) → (a ≡ true → b ≡ wanted) → cond b (a || (n && wanted)) (n && wanted) ≡ ((a || n) && wanted)
passed true true n wanted h = h refl
passed true false n wanted h = let e : false ≡ wanted = h refl in ap (λ w. n && w) (sym e) ∙ by n ∙ e
  where
    by : (n : Bool) → (n && false) ≡ false
    by true = refl
    by false = refl
passed false true n wanted h = refl
passed false false n wanted h = refl

pub named-filter : (p : Key → Bool) (xs : List Key) (q : Key) → is_named q (filter p xs) ≡ (is_named q xs && p q)
named-filter p [] q = refl
named-filter p (x ∷ xs) q =
    passing p x xs q (p x) ∙ ap (λ n. cond (p x) (same_key q x || n) n) (named-filter p xs q)
    ∙ passed (same_key q x) (p x) (is_named q xs) (p q) (λ t. ap p (sym (tied q x t)))

-- a key is listed for a slot just where something stands at it and the slot is its own
pub named-keys_of : (s : Store) (slot : ℕ) (q : Key) → is_named q (keys_of s slot) ≡ (is_some (get s q) && slot_of q == slot)
unfolding keys_of
named-keys_of s slot q = named-filter (λ k. slot_of k == slot) (keys s) q ∙ ap (λ b. b && slot_of q == slot) (sym (named-keys s q))
