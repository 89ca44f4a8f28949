-- A settled world is open.
use Rattle.std.proofs.Common.{◌≡◌, ◌≢◌, ◌⊎◌, ℕ, ◌<◌, Bool, true, false, cond, ◌&&◌, eqb, List, length, Option, Some}
use Rattle.std.proofs.Common.{None, refl, sym, ap, ◌∙◌, subst, inl, inr}
use Rattle.std.proofs.lemmas.Bool.{cases_eq, true≢false, eqb-true, eqb-false, eq-eqb, ne_eqb}
use Rattle.std.specs.Prelude.{slice_index}
use Rattle.std.specs.Option.{is_some}
use Rattle.std.specs.FinMap.{get}
use Rattle.key_slots.specs.HashSlot.{slot_of}
use Rattle.cluster_admin.specs.Keys.{Key}
use Rattle.store_commands.specs.Store.{Store}
use Rattle.typed_values.specs.declared.value.Value.{Value}
use Rattle.cluster_world.specs.Honesty.{WasAsked}
use Rattle.cluster_world.specs.Openness.{AskAllows, HasPhaseAt, IsOpenSlot, IsSplit, Open}
use Rattle.cluster_admin.specs.Phases.{Phase, Phases, HasPhase, may_lie}
use Rattle.cluster_admin.specs.Phases as phase
use Rattle.cluster_world.specs.Worlds.{World, held}
use Rattle.cluster_world.specs.declared.event.Event.{Event}
use Rattle.server_headlines.specs.Worlds.{Holding, IsOpenButStale, IsSettled, IsStaleAt, is_doubled, settled_at}

-- ---- one key

none_there : (o : Option Value) → is_some o ≡ false → o ≡ None
none_there None e = refl
none_there (Some v) e = absurd (true≢false e)

-- where nothing stood nothing stands
pub stays_empty : (p : Phase) (h : Holding) (n : ℕ) → h n ≡ None → settled_at p h n ≡ None
stays_empty (phase.Closed o) h n empty = empty
stays_empty (phase.Importing s t) h n empty = empty
stays_empty (phase.TargetTold s t) h n empty = empty
stays_empty (phase.SourceTold s t left) h n empty = empty
stays_empty (phase.Migrating s t) h n empty = by (is_doubled s t h) refl (eqb n t) refl (eqb n s)
  where
    half : (a : Bool) → is_some (h t) ≡ false → (a && is_some (h t)) ≡ false
    half true e = e
    half false e = refl

    by : (d : Bool) → is_doubled s t h ≡ d → (b : Bool) → eqb n t ≡ b → (c : Bool)
        → cond d (cond b (h s) (cond c None (h n))) (h n) ≡ None
    by false e b f c = empty
    by true e true f c =
        let gone : h t ≡ None = ap h (sym (eqb-true n t f)) ∙ empty in
        absurd (true≢false (sym e ∙ half (is_some (h s)) (ap is_some gone)))
    by true e false f true = refl
    by true e false f false = empty

-- the key has one home
abbrev pub HasHome : (place : ℕ → Option Value) → Option Value → Type 0
HasHome place v = (home : ℕ) × (place home ≡ v) × ((n : ℕ) → n ≢ home → place n ≡ None)

no_copy : {A : Type 0} → A ⊎ ⊥ → A
no_copy (inl a) = a
no_copy (inr b) = absurd b

module _ (s t : ℕ) (h : Holding) (v : Option Value) (home : ℕ) (is : h home ≡ v)
    (others : (n : ℕ) → n ≢ home → (h n ≡ None) ⊎ IsStaleAt (phase.Migrating s t) h home n) where
  -- the source and the target do not both hold it
  single : is_doubled s t h ≡ false → HasHome h v
  single e = (home, is, λ n ne. by n (others n ne))
    where
      by : (n : ℕ) → (h n ≡ None) ⊎ IsStaleAt (phase.Migrating s t) h home n → h n ≡ None
      by n (inl empty) = empty
      by n (inr stale) =
          ap h stale.1 ∙ none_there (h t) (sym (ap (λ a. a && is_some (h t)) stale.2) ∙ e)

  -- both hold it: then the source is its home
  at_source : is_doubled s t h ≡ true → home ≡ s
  at_source e = elim (cases_eq s home) [
    | inl same ↦ sym same
    | inr apart ↦ by (others s apart)
  ]
    where
      by : (h s ≡ None) ⊎ IsStaleAt (phase.Migrating s t) h home s → home ≡ s
      by (inl empty) = absurd (true≢false (sym e ∙ ap (λ o. is_some o && is_some (h t)) empty))
      by (inr stale) = stale.0

  doubled : is_doubled s t h ≡ true → HasHome (λ n. cond (eqb n t) (h s) (cond (eqb n s) None (h n))) v
  doubled e = (
    t,
    ap (λ b. cond b (h s) (cond (eqb t s) None (h t))) (eq-eqb t t refl) ∙ ap h (sym (at_source e)) ∙ is,
    λ n ne. ap (λ b. cond b (h s) (cond (eqb n s) None (h n))) (ne_eqb n t ne) ∙ by n ne (eqb n s) refl,
  )
    where
      left : (n : ℕ) → n ≢ t → (h n ≡ None) ⊎ IsStaleAt (phase.Migrating s t) h home n → h n ≡ None
      left n ne (inl empty) = empty
      left n ne (inr stale) = absurd (ne stale.1)

      by : (n : ℕ) → n ≢ t → (b : Bool) → eqb n s ≡ b → cond b None (h n) ≡ None
      by n ne true f = refl
      by n ne false f =
          left n ne (others n (λ same. eqb-false n s f (same ∙ at_source e)))

  settled : HasHome (settled_at (phase.Migrating s t) h) v
  settled = by (is_doubled s t h) refl
    where
      by : (d : Bool) → is_doubled s t h ≡ d
          → HasHome (λ n. cond d (cond (eqb n t) (h s) (cond (eqb n s) None (h n))) (h n)) v
      by true e = doubled e
      by false e = single e

pub has_home : (p : Phase) (h : Holding) (v : Option Value) (home : ℕ) → h home ≡ v
    → ((n : ℕ) → n ≢ home → (h n ≡ None) ⊎ IsStaleAt p h home n) → HasHome (settled_at p h) v
has_home (phase.Closed o) h v home is others = (home, is, λ n ne. no_copy (others n ne))
has_home (phase.Importing s t) h v home is others = (home, is, λ n ne. no_copy (others n ne))
has_home (phase.TargetTold s t) h v home is others = (home, is, λ n ne. no_copy (others n ne))
has_home (phase.SourceTold s t left) h v home is others = (home, is, λ n ne. no_copy (others n ne))
has_home (phase.Migrating s t) h v home is others = settled s t h v home is others

-- ---- the world

module _ (w w' : World) (phases : Phases) (store : Store) (before : List Event)
    (first : IsOpenButStale w phases store before) (done : IsSettled w phases w') where
  empty_after : (n : ℕ) (k : Key) → held w n k ≡ None → held w' n k ≡ None
  empty_after n k empty = done.holds n k ∙ stays_empty (phases (slot_of k)) (λ m. held w m k) n empty

  below : (n : ℕ) → n < length w'.nodes → n < length w.nodes
  below n lt = subst (λ c. n < c) done.count lt

  same_phase : (s : ℕ) (p : Phase) → HasPhaseAt w s p → HasPhaseAt w' s p
  same_phase s p has = record {
    fine = subst (λ c. phase.IsPhase c p) (sym done.count) has.fine;
    owners = λ m lt. ap (λ os. slice_index os s) (done.owners m) ∙ has.owners m (below m lt);
    going = λ m lt. ap (λ ms. get ms s) (done.migrating m) ∙ has.going m (below m lt);
    coming = λ m lt. ap (λ ms. get ms s) (done.importing m) ∙ has.coming m (below m lt);
  }

  same_asks : (p : Phase) (ks : List Key) (m : ℕ) → AskAllows p w ks m → AskAllows p w' ks m
  same_asks (phase.Closed o) ks m allows = allows
  same_asks (phase.Importing s t) ks m allows = allows
  same_asks (phase.TargetTold s t) ks m allows = allows
  same_asks (phase.SourceTold s t left) ks m allows = allows
  same_asks (phase.Migrating s t) ks m allows = λ at k named. empty_after s k (allows at k named)

  slot_open : (s : ℕ) → IsOpenSlot w' before s (phases s)
  slot_open s = record {
    has = same_phase s (phases s) (first.slots s).has;
    place = λ m k of not. empty_after m k ((first.slots s).place m k of not);
    asked = λ ks m was one of.
        same_asks (phases s) ks m
        ((first.slots s).asked ks m (subst (λ port. WasAsked port before ks m) done.port was) one of);
  }

  split_after : IsSplit w' store
  split_after k =
      let at = first.split k in
      let h : Holding = λ m. held w m k in
      let now = has_home (phases (slot_of k)) h (get store k) at.0 at.1 at.2 in
      (now.0, done.holds now.0 k ∙ now.1, λ n ne. done.holds n k ∙ now.2 n ne)

  pub opened : Open w' phases store before
  opened = record {
    widths = λ m lt. ap length (done.owners m) ∙ first.widths m (below m lt);
    slots = slot_open;
    split = split_after;
  }
