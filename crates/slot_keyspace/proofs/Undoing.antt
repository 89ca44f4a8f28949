-- Several writes that are done together or not at all.
use Rattle.std.proofs.Common.{◌≡◌, Bool, true, false, cond, List, [], ◌∷◌, ◌++◌, Option, None, Some, IsSome, refl, ap, sym, subst, ◌∙◌}
use Rattle.std.specs.Ordering.{eq_by_cmp}
use Rattle.std.specs.FinMap.{get, insert, remove, get-remove, same_map}
use Rattle.typed_values.specs.declared.value.Value.{Value}
use Rattle.store_commands.specs.Store.{Store, Key, Write, write, after_writes, is_named, HasDistinctKeys}
use Rattle.store_commands.specs.Effects.{without}
use Rattle.slot_keyspace.specs.Writing.{Progress, step, undone, CanBeUndone}
use Rattle.slot_keyspace.proofs.Places.{order, order-total, order-exact}
use Rattle.slot_keyspace.proofs.Standing.{get-without}
use Rattle.slot_keyspace.proofs.Writes.{put_back-undoes, get-insert_some, written-remove, distinct_head, distinct_rest}

-- ---- the last write is taken back first

pub undone-last : (us : List Write) (u : Write) (s : Store) → undone (us ++ u ∷ []) s ≡ undone us (write s u.0 u.1)
undone-last [] u s = refl
undone-last (w ∷ us) u s = ap (λ t. write t w.0 w.1) (undone-last us u s)

can-last : (us : List Write) (u : Write) (s : Store) → CanBeUndone us (write s u.0 u.1) → IsSome (get s u.0) → CanBeUndone (us ++ u ∷ []) s
can-last [] u s h some = (tt, some)
can-last (w ∷ us) u s h some = (can-last us u s h.0 some, subst (λ t. IsSome (get t w.0)) (sym (undone-last us u s)) h.1)

pub can-parts : (us : List Write) (u : Write) (s : Store) → CanBeUndone (us ++ u ∷ []) s → IsSome (get s u.0) × CanBeUndone us (write s u.0 u.1)
can-parts [] u s h = (h.1, tt)
can-parts (w ∷ us) u s h =
    let rest = can-parts us u s h.0 in
    (rest.0, (rest.1, subst (λ t. IsSome (get t w.0)) (undone-last us u s) h.1))

-- ---- keys that are to go

without-last : (s : Store) (ks : List Key) (k : Key) → without s (ks ++ k ∷ []) ≡ remove (without s ks) k
without-last s [] k = refl
without-last s (j ∷ ks) k = without-last (remove s j) ks k

either : (a b : Bool) (o : Option Value) → cond a None (cond b None o) ≡ cond b None (cond a None o)
either true true o = refl
either true false o = refl
either false b o = refl

without-remove : (s : Store) (ks : List Key) (k : Key) → without (remove s k) ks ≡ remove (without s ks) k
without-remove s ks k =
    same_map order-total order-exact _ _
    (λ q. get-without (remove s k) ks q ∙ ap (cond (is_named q ks) None) (get-remove order-total s k q)
    ∙ either (is_named q ks) (eq_by_cmp order q k) (get s q)
    ∙ sym (get-remove order-total (without s ks) k q ∙ ap (cond (eq_by_cmp order q k) None) (get-without s ks q)))

-- ---- so far

-- from the store `first`, of which `all` is to be written: what is done, with the writes to come, gives the whole
pub record IsSoFar (first : Store) (all : List Write) (p : Progress) (rest : List Write) : Type 0 where
  pub done : without (after_writes p.store rest) p.leaving ≡ after_writes first all
  pub back : undone p.undo p.store ≡ first
  pub can : CanBeUndone p.undo p.store
  pub distinct : HasDistinctKeys rest

so_far-step : (first : Store) (all : List Write) (p : Progress) (k : Key) (o : Option Value) (rest : List Write)
    → IsSoFar first all p ((k, o) ∷ rest) → IsSoFar first all (step p k o) rest
so_far-step first all p k None rest h = record {
  done =
      without-last (after_writes p.store rest) p.leaving k
      ∙ sym (without-remove (after_writes p.store rest) p.leaving k)
      ∙ ap (λ s. without s p.leaving) (sym (written-remove p.store k rest (distinct_head (k, None) rest h.distinct)))
      ∙ h.done;
  back = h.back;
  can = h.can;
  distinct = distinct_rest (k, None) rest h.distinct;
}
so_far-step first all p k (Some v) rest h =
    let same = put_back-undoes p.store k v (get p.store k) refl in
    record {
      done = h.done;
      back = undone-last p.undo (k, get p.store k) (insert p.store k v) ∙ ap (undone p.undo) same ∙ h.back;
      can = can-last p.undo (k, get p.store k) (insert p.store k v) (subst (CanBeUndone p.undo) (sym same) h.can) (get-insert_some p.store k v);
      distinct = distinct_rest (k, Some v) rest h.distinct;
    }

pub so_far-next : (first : Store) (all : List Write) (p q : Progress) (k : Key) (o : Option Value) (rest left : List Write)
    → left ≡ (k, o) ∷ rest → q ≡ step p k o → IsSoFar first all p left → IsSoFar first all q rest
so_far-next first all p q k o rest left is done h =
    subst (λ r. IsSoFar first all r rest) (sym done) (so_far-step first all p k o rest (subst (IsSoFar first all p) is h))

pub so_far-end : (first : Store) (all : List Write) (p : Progress) (left : List Write) → left ≡ [] → IsSoFar first all p left → without p.store p.leaving ≡ after_writes first all
so_far-end first all p left is h = ap (λ ws. without (after_writes p.store ws) p.leaving) (sym is) ∙ h.done

pub so_far-start : (first : Store) (all left : List Write) (undo : List Write) (leaving : List Key) → left ≡ all → undo ≡ [] → leaving ≡ [] → HasDistinctKeys all
    → IsSoFar first all (record { store = first; undo = undo; leaving = leaving }) left
so_far-start first all left undo leaving is none no_key distinct =
    subst (IsSoFar first all (record { store = first; undo = undo; leaving = leaving })) (sym is)
    (subst (λ us. IsSoFar first all (record { store = first; undo = us; leaving = leaving }) all) (sym none)
    (subst (λ ks. IsSoFar first all (record { store = first; undo = []; leaving = ks }) all) (sym no_key)
    (record { done = refl; back = refl; can = tt; distinct = distinct })))
