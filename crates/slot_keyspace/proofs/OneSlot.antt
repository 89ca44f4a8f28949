-- A command whose keys have one slot: the slot's part of a store answers it as the whole does, and changes as the whole.
use Rattle.std.proofs.Common.{◌≡◌, ◌≢◌, ℕ, ◌<◌, Bool, true, false, cond, ◌||◌, List, [], ◌∷◌, get_or, set, length, Option, None, Some, IsSome, is_some, true≢false, Result, Ok, Err, IfOk, OnOk, OnErr, refl, ap, sym, subst, ◌∙◌, arith, inl, inr}
use Rattle.std.specs.Prelude.{◌==◌}
use Rattle.std.proofs.lemmas.Bool.{cases_eq, cases_Bool, eqb-true}
use Rattle.std.proofs.lemmas.List.{get_or-set_same, get_or-set_other}
use Rattle.std.proofs.lemmas.List.Elements.{All-head, All-tail}
use Rattle.std.proofs.Math.ListN.{length-set}
use Rattle.std.specs.Cmp.{nat_eq_equiv}
use Rattle.std.specs.FinMap.{get, empty, same_map}
use Rattle.key_slots.specs.HashSlot.{slot_of}
use Rattle.client_commands.specs.Commands.{keys}
use Rattle.client_commands.specs.declared.command.Command.{Command}
use Rattle.resp2_wire.specs.declared.reply.Reply.{Reply}
use Rattle.typed_values.specs.declared.value.Value.{Value}
use Rattle.store_commands.specs.Apply.{answer, apply}
use Rattle.store_commands.specs.Effects.{IsChange, with_effect}
use Rattle.store_commands.specs.Memory.{IsMade, MayTakeMemory}
use Rattle.store_commands.specs.Store.{Key, Store, is_named, same_key}
use Rattle.store_commands.specs.declared.effect.Effect.{Effect}
use Rattle.store_commands.proofs.Named.{same_is, leaves_others, sees_named}
use Rattle.slot_keyspace.specs.OneSlot.{AreInSlot, IsPart, IsPreparedIn}
use Rattle.slot_keyspace.specs.Union.{union_of, map_at, AreBySlot}
use Rattle.slot_keyspace.proofs.Places.{order-total, order-exact}
use Rattle.slot_keyspace.proofs.Union.{get-part, get-union, map-found}

same_number : (a s : ℕ) → a ≡ s → (a == s) ≡ true
same_number a s e = ap (λ t. t == s) e ∙ nat_eq_equiv.refl s

other_number : (a s : ℕ) → (a == s) ≡ false → a ≢ s
other_number a s e f = true≢false (sym (same_number a s f) ∙ e)

-- a slot has one part
pub same-part : (store a b : Store) (s : ℕ) → IsPart store s a → IsPart store s b → a ≡ b
same-part store a b s p q = same_map order-total order-exact a b (λ k. p k ∙ sym (q k))

named-in : (s : ℕ) (ks : List Key) (q : Key) → AreInSlot s ks → is_named q ks ≡ true → slot_of q ≡ s
named-in s [] q h e = absurd (true≢false (sym e))
named-in s (k ∷ ks) q h e = by (same_key q k) refl (λ rest. named-in s ks q (All-tail (λ j. slot_of j ≡ s) k ks h) rest)
  where
    by : (b : Bool) → same_key q k ≡ b → (is_named q ks ≡ true → slot_of q ≡ s) → slot_of q ≡ s
    by true t later = ap slot_of (same_is q k t) ∙ All-head (λ j. slot_of j ≡ s) k ks h
    by false t later = later (sym (ap (λ b. b || is_named q ks) t) ∙ e)

unnamed-out : (s : ℕ) (ks : List Key) (q : Key) → AreInSlot s ks → slot_of q ≢ s → is_named q ks ≡ false
unnamed-out s ks q h other = elim (cases_Bool (is_named q ks)) [
  | inl e ↦ absurd (other (named-in s ks q h e))
  | inr e ↦ e
]

module _ (store : Store) (s : ℕ) (part : Store) (c : Command) (is : IsPart store s part) (inside : AreInSlot s (keys c)) where
  get-inside : (q : Key) → slot_of q ≡ s → get part q ≡ get store q
  get-inside q e = is q ∙ ap (λ b. cond b (get store q) None) (same_number (slot_of q) s e)

  agree : (q : Key) → is_named q (keys c) ≡ true → get part q ≡ get store q
  agree q e = get-inside q (named-in s (keys c) q inside e)

  pub answer-part : answer part c ≡ answer store c
  answer-part = (sees_named part store c agree).0

  applied-inside : (q : Key) → slot_of q ≡ s → get (apply part c) q ≡ get (apply store c) q
  applied-inside q e = elim (cases_Bool (is_named q (keys c))) [
    | inl here ↦ (sees_named part store c agree).1 q here
    | inr other ↦ leaves_others part c q other ∙ get-inside q e ∙ sym (leaves_others store c q other)
  ]

  applied-outside : (q : Key) → slot_of q ≢ s → get (apply store c) q ≡ get store q
  applied-outside q e = leaves_others store c q (unnamed-out s (keys c) q inside e)

  pub apply-part : IsPart (apply store c) s (apply part c)
  apply-part q = by (slot_of q == s) refl
    where
      by : (b : Bool) → (slot_of q == s) ≡ b → get (apply part c) q ≡ cond b (get (apply store c) q) None
      by true e = applied-inside q (eqb-true _ _ e)
      by false e =
          leaves_others part c q (unnamed-out s (keys c) q inside (other_number _ _ e))
          ∙ is q ∙ ap (λ b. cond b (get store q) None) e

none_is_there : (o : Option Value) → o ≡ None → IsSome o → ⊥
none_is_there None e some = true≢false (sym some)
none_is_there (Some v) e some = true≢false (ap is_some e)

-- ---- the map of a slot that is replaced by another part

module _ (ms : List Store) (s : ℕ) (h : AreBySlot ms) (within : s < length ms) (n : Store) (store : Store) (is : IsPart store s n) where
  at_slot : (t : ℕ) → t ≡ s → map_at (set ms s n) t ≡ n
  at_slot t e = ap (map_at (set ms s n)) e ∙ get_or-set_same ms s n empty within

  elsewhere : (t : ℕ) → t ≢ s → map_at (set ms s n) t ≡ map_at ms t
  elsewhere t e = get_or-set_other ms s t n empty e

  of_slot : (q : Key) → IsSome (get n q) → slot_of q ≡ s
  of_slot q some = by (slot_of q == s) refl
    where
      by : (b : Bool) → (slot_of q == s) ≡ b → slot_of q ≡ s
      by true e = eqb-true _ _ e
      by false e = absurd (none_is_there (get n q) (is q ∙ ap (λ b. cond b (get store q) None) e) some)

  pub by_slot-part : AreBySlot (set ms s n)
  by_slot-part = record {
    width = length-set ms s n ∙ h.width;
    own = λ t q some. elim (cases_eq t s) [
      | inl e ↦ of_slot q (subst IsSome (ap (λ m. get m q) (at_slot t e)) some) ∙ sym e
      | inr e ↦ h.own t q (subst IsSome (ap (λ m. get m q) (elsewhere t e)) some)
    ];
  }

  -- where the rest of the store stays
  pub union-part : ((q : Key) → slot_of q ≢ s → get store q ≡ get (union_of ms) q) → union_of (set ms s n) ≡ store
  union-part stays =
      same_map order-total order-exact _ _
      (λ q. get-union (set ms s n) by_slot-part q ∙ elim (cases_eq (slot_of q) s) [
        | inl e ↦ ap (λ m. get m q) (at_slot (slot_of q) e) ∙ is q ∙ ap (λ b. cond b (get store q) None) (same_number (slot_of q) s e)
        | inr e ↦ ap (λ m. get m q) (elsewhere (slot_of q) e) ∙ sym (get-union ms h q) ∙ sym (stays q e)
      ])

-- ---- as the program comes to the map of a slot

module _ (ms : List Store) (p s : ℕ) (m : Store) (store : Store) (h : AreBySlot ms) (place : p ≡ s) (inside : s < 16384) (at : m ≡ get_or ms p m) (seen : union_of ms ≡ store) where
  place_inside : p < 16384
  place_inside = omega (arith, place)

  within : p < length ms
  within = let w : length ms ≡ 16384 = h.width in omega (arith, place)

  pub part-found : IsPart store s m
  part-found q =
      ap (λ n. get n q) (map-found ms p m h place_inside at) ∙ get-part ms h p q
      ∙ (λ i. cond (slot_of q == place i) (get (seen i) q) None)

  pub prepared-part : {E : Type 0} (r : Result (Reply × Effect) E) (c : Command) → AreInSlot s (keys c) → IfOk r (IsChange m c) → IfOk r (IsPreparedIn store s c)
  prepared-part (Ok d) c keys_in change = record { one_slot = keys_in; part = m; is_part = part-found; is_change = change }
  prepared-part (Err e) c keys_in change = tt

  pub answered-part : {E : Type 0} (r : Result (Reply × Effect) E) (c : Command) → AreInSlot s (keys c) → IfOk r (IsChange m c) → IfOk r (λ d. d.0 ≡ answer store c)
  answered-part (Ok d) c keys_in change = change.0 ∙ answer-part store s m c part-found keys_in
  answered-part (Err e) c keys_in change = tt

  pub memory-part : {A E : Type 0} (r : Result A E) (c : Command) → AreInSlot s (keys c) → OnErr r (MayTakeMemory m c) → OnErr r (MayTakeMemory store c)
  memory-part (Ok x) c keys_in may = tt
  memory-part (Err e) c keys_in (inl writes) = inl writes
  memory-part (Err e) c keys_in (inr made) = inr (subst IsMade (answer-part store s m c part-found keys_in) made)

  -- what the command leaves of the slot, where its effect was prepared at the part that is here
  effect-part : (c : Command) (d : Reply × Effect) → IsPreparedIn store s c d → with_effect d.1 m ≡ apply m c
  effect-part c d prepared =
      subst (λ part. with_effect d.1 part ≡ apply part c) (same-part store prepared.part m s prepared.is_part part-found) prepared.is_change.1

  after : (c : Command) (d : Reply × Effect) (n : Store) → IsPreparedIn store s c d → n ≡ with_effect d.1 m → IsPart (apply store c) p n
  after c d n prepared is q =
      ap (λ x. get x q) (is ∙ effect-part c d prepared) ∙ apply-part store s m c part-found prepared.one_slot q
      ∙ ap (λ t. cond (slot_of q == t) (get (apply store c) q) None) (sym place)

  before : (n : Store) → n ≡ m → IsPart store p n
  before n is q = ap (λ x. get x q) is ∙ part-found q ∙ ap (λ t. cond (slot_of q == t) (get store q) None) (sym place)

  pub by_slot-commit : {A E : Type 0} (r : Result A E) (c : Command) (d : Reply × Effect) (n : Store) → IsPreparedIn store s c d
      → OnOk r (n ≡ with_effect d.1 m) → OnErr r (n ≡ m) → AreBySlot (set ms p n)
  by_slot-commit (Ok x) c d n prepared ok err = by_slot-part ms p h within n (apply store c) (after c d n prepared ok)
  by_slot-commit (Err e) c d n prepared ok err = by_slot-part ms p h within n store (before n err)

  pub union-commit : {A E : Type 0} (r : Result A E) (d : Reply × Effect) (n : Store) → OnOk r (n ≡ with_effect d.1 m)
      → OnOk r ((c : Command) → IsPreparedIn store s c d → union_of (set ms p n) ≡ apply store c)
  union-commit (Ok x) d n ok = λ c prepared. union-part ms p h within n (apply store c) (after c d n prepared ok)
      (λ q other. applied-outside store s m c part-found prepared.one_slot q (λ e. other (e ∙ sym place)) ∙ ap (λ u. get u q) (sym seen))
  union-commit (Err e) d n ok = tt
