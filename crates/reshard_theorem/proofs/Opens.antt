-- Clean worlds are the open ones in which every slot is closed.
use Rattle.std.proofs.Common.{◌≡◌, ◌≢◌, ℕ, ◌<◌, ◌≤◌, true, false, cond, eqb, List, [], length, None, sym, refl, ap, ◌∙◌, subst, subst₂, arith, inl, inr}
use Rattle.std.proofs.lemmas.Bool.{cases_lt, cases_eq, ne_eqb, eq-eqb, eqb-false, cond-true, cond-false}
use Rattle.std.specs.FinMap.{get}
use Rattle.std.specs.Prelude.{slice_index}
use Rattle.key_slots.specs.HashSlot.{slot_of}
use Rattle.store_commands.specs.Store.{Key, Store}
use Rattle.cluster_world.specs.Worlds.{World, owner, migrating, importing, held}
use Rattle.cluster_world.specs.Cleanness.{Clean}
use Rattle.cluster_world.specs.declared.event.Event.{Event}
use Rattle.cluster_admin.specs.Phases.{Phases, closed_by}
use Rattle.cluster_admin.specs.Phases as phase
use Rattle.cluster_world.specs.Openness.{Open, IsOpenSlot, CleanIsOpen, ClosedIsClean}
use Rattle.reshard_theorem.proofs.Slotwise.{IsClean}
use Rattle.reshard_theorem.proofs.Tables.{by_slots, by_nodes}
use Rattle.reshard_theorem.proofs.Whole.{held_past, marks_past}

module _ (w : World) (owners : List ℕ) (store : Store) (clean : Clean w owners store) where
  by_slot : IsClean w (length w.nodes) (λ s. slice_index owners s) store
  by_slot = by_slots w (length w.nodes) owners store refl clean

  held_at : (m : ℕ) (k : Key) → held w m k ≡ cond (eqb (slice_index owners (slot_of k)) m) (get store k) None
  held_at m k = elim (cases_lt m (length w.nodes)) [
    | inl h ↦ by_slot.entries m k h
    | inr h ↦ held_past w m k h ∙ sym (cond-false _ _ _ (ne_eqb (slice_index owners (slot_of k)) m (λ e. past (by_slot.bounded (slot_of k)) e h)))
  ]
    where
      past : {a : ℕ} → a < length w.nodes → a ≡ m → length w.nodes ≤ m → ⊥
      past h e g = omega arith

  is_open : Open w (closed_by owners) store []
  is_open = record {
    widths = by_slot.widths;
    slots = λ s. record {
      has = record {
        fine = by_slot.bounded s;
        owners = λ m h. by_slot.owned m s h;
        going = λ m h. by_slot.not_migrating m s h;
        coming = λ m h. by_slot.not_importing m s h;
      };
      place = λ m k i e. held_at m k ∙ cond-false _ _ _ (ne_eqb _ m (λ u. eqb-false m (slice_index owners s) e (sym u ∙ ap (λ x. slice_index owners x) i)));
      asked = λ ks m v. absurd v;
    };
    split = λ k. (slice_index owners (slot_of k), held_at _ k ∙ cond-true _ _ _ (eq-eqb (slice_index owners (slot_of k)) _ refl), λ m e. held_at m k ∙ cond-false _ _ _ (ne_eqb (slice_index owners (slot_of k)) m (λ u. e (sym u))));
  }

pub clean_is_open : CleanIsOpen
clean_is_open w owners store clean = is_open w owners store clean

pub closed_is_clean : ClosedIsClean
closed_is_clean w owners store before width o = by_nodes w (length w.nodes) owners (λ s. slice_index owners s) store width (λ s. refl) (record {
  size = refl;
  bounded = λ s. (o.slots s).has.fine;
  owned = λ m s h. (o.slots s).has.owners m h;
  widths = o.widths;
  not_migrating = λ m s h. (o.slots s).has.going m h;
  not_importing = λ m s h. (o.slots s).has.coming m h;
  entries = λ m k h. elim (cases_eq (slice_index owners (slot_of k)) m) [
    | inl e ↦ subst (λ j. held w j k ≡ get store k) e (there k) ∙ sym (cond-true _ _ _ (eq-eqb (slice_index owners (slot_of k)) m e))
    | inr e ↦ away k m (λ u. e (sym u)) ∙ sym (cond-false _ _ _ (ne_eqb (slice_index owners (slot_of k)) m e))
  ];
})
  where
    away : (k : Key) (m : ℕ) → m ≢ slice_index owners (slot_of k) → held w m k ≡ None
    away k m e = (o.slots (slot_of k)).place m k refl (ne_eqb m (slice_index owners (slot_of k)) e)

    there : (k : Key) → held w (slice_index owners (slot_of k)) k ≡ get store k
    there k = elim (cases_eq (slice_index owners (slot_of k)) (o.split k).0) [
      | inl e ↦ ap (λ j. held w j k) e ∙ (o.split k).1
      | inr e ↦ (o.split k).2 _ e ∙ sym (away k (o.split k).0 (λ u. e (sym u))) ∙ (o.split k).1
    ]
