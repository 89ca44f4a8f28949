-- A run that is stopped anywhere leaves an open world.
use Rattle.std.proofs.Common.{◌≡◌, ◌≢◌, ℕ, ◌<◌, true, false, eqb, ◌||◌, List, length, Option, None, sym, refl, ap, ◌∙◌, subst, inl, inr}
use Rattle.std.proofs.lemmas.Bool.{or_parts}
use Rattle.key_slots.specs.HashSlot.{slot_of}
use Rattle.store_commands.specs.Store.{Key, Store, is_named}
use Rattle.cluster_world.specs.Worlds.{World, owner, migrating, importing, held}
use Rattle.cluster_world.specs.declared.event.Event.{Event}
use Rattle.plan_language.specs.declared.plan_command.PlanCommand.{PlanCommand}
use Rattle.cluster_admin.specs.Phases.{AreTwo, AreOthers, IsPhase, HasPhase, Phases, owner_in, may_lie}
use Rattle.cluster_admin.specs.Phases as phase
use Rattle.cluster_world.specs.Openness.{Open, IsOpenSlot, AskAllows}
use Rattle.plan_semantics.specs.Plans.{part, AreEnds}
use Rattle.reshard_theorem.proofs.Phases.{Phase, Closed, Importing, Migrating, Drained, TargetTold, SourceTold, own_in, goes_in, comes_in, may_hold, AskFine, Rest, Marks, Emptied, Data, named_slot}
use Rattle.reshard_theorem.proofs.Base.{Base, Inv, MarksIn}
use Rattle.reshard_theorem.proofs.Turns.{two_of}

-- the phase in which a slot is left
abbrev pub outer : Phase → phase.Phase
outer (Closed o) = phase.Closed o
outer (Importing o t) = phase.Importing o t
outer (Migrating o t) = phase.Migrating o t
outer (Drained o t) = phase.Migrating o t
outer (TargetTold o t) = phase.TargetTold o t
outer (SourceTold o t left) = phase.SourceTold o t left

module _ (n goal s : ℕ) (rest : List PlanCommand) where
  fine : (q : Phase) → Rest n goal s q rest → IsPhase n (outer q)
  fine (Closed o) l = l.owner_below
  fine (Importing o t) (inl l) = two_of n o t l.others l.ends
  fine (Importing o t) (inr l) = l.two
  fine (Migrating o t) l = two_of n o t l.others l.ends
  fine (Drained o t) l = two_of n o t l.others l.ends
  fine (TargetTold o t) l = two_of n o t l.others l.ends
  fine (SourceTold o t left) l = (l.two, l.others, l.some)

  owns : (q : Phase) (m : ℕ) → own_in q m ≡ owner_in (outer q) m
  owns (Closed o) m = refl
  owns (Importing o t) m = refl
  owns (Migrating o t) m = refl
  owns (Drained o t) m = refl
  owns (TargetTold o t) m = refl
  owns (SourceTold o t left) m = refl

  goes : (q : Phase) (m : ℕ) → goes_in q m ≡ phase.goes_in (outer q) m
  goes (Closed o) m = refl
  goes (Importing o t) m = refl
  goes (Migrating o t) m = refl
  goes (Drained o t) m = refl
  goes (TargetTold o t) m = refl
  goes (SourceTold o t left) m = refl

  comes : (q : Phase) (m : ℕ) → comes_in q m ≡ phase.comes_in (outer q) m
  comes (Closed o) m = refl
  comes (Importing o t) m = refl
  comes (Migrating o t) m = refl
  comes (Drained o t) m = refl
  comes (TargetTold o t) m = refl
  comes (SourceTold o t left) m = refl

  lie : (q : Phase) (m : ℕ) → may_lie (outer q) m ≡ false → may_hold q m ≡ false
  lie (Closed o) m e = e
  lie (Importing o t) m e = e
  lie (Migrating o t) m e = e
  lie (Drained o t) m e = (or_parts (eqb m o) (eqb m t) e).1
  lie (TargetTold o t) m e = e
  lie (SourceTold o t left) m e = e

  allows : (q : Phase) (w : World) (ks : List Key) (m : ℕ) → ((k : Key) → is_named k ks ≡ true → slot_of k ≡ s) → Emptied s q (held w) → AskFine q (held w) ks m → AskAllows (outer q) w ks m
  allows (Closed o) w ks m of emptied a = tt
  allows (Importing o t) w ks m of emptied a = a
  allows (Migrating o t) w ks m of emptied a = a
  allows (Drained o t) w ks m of emptied a = λ p k i. emptied k (of k i)
  allows (TargetTold o t) w ks m of emptied a = tt
  allows (SourceTold o t left) w ks m of emptied a = tt

module _ (n : ℕ) (goal : ℕ → ℕ) (w : World) (past : List Event) (plan : List PlanCommand) (listed : Option (List Key)) (store : Store) (inv : Inv n goal w past plan listed store) where
  -- the phase of a slot where the run stops
  unfoldable pub stopped_in : Phases
  stopped_in s = outer (inv.base.marks s).phase

  pub is_left_open : Open w stopped_in store past
  unfolding stopped_in
  is_left_open = record {
    widths = λ m h. inv.base.widths m (subst (λ k. m < k) inv.base.size h);
    slots = λ s.
        let q : Phase = (inv.base.marks s).phase in
        record {
          has = record {
            fine = subst (λ k. IsPhase k (outer q)) (sym inv.base.size) (fine n (goal s) s (part plan s) q (inv.base.marks s).left);
            owners = λ m h. (inv.base.marks s).owners m (subst (λ k. m < k) inv.base.size h) ∙ owns n (goal s) s (part plan s) q m;
            going = λ m h. (inv.base.marks s).going m ∙ goes n (goal s) s (part plan s) q m;
            coming = λ m h. (inv.base.marks s).coming m ∙ comes n (goal s) s (part plan s) q m;
          };
          place = λ m k i e. (inv.lies s).place m k i (lie n (goal s) s (part plan s) q m e);
          asked = λ ks m v one at. allows n (goal s) s (part plan s) q w ks m (λ k i. named_slot ks one k i ∙ at) (inv.base.emptied s) ((inv.lies s).asked ks m v one at);
        };
    split = inv.split;
  }
