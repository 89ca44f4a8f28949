-- The invariant at the first world: from an open cluster and a plan that is legal for its phases.
use Rattle.std.proofs.Common.{◌≡◌, ◌≢◌, ◌⊎◌, ℕ, ◌<◌, ◌≤◌, Bool, true, false, cond, eqb, ◌||◌, List, [], ◌∷◌, ◌++◌, length, Option, Some, None, sym, refl, ap, ◌∙◌, subst, subst₂, arith, inl, inr}
use Rattle.std.proofs.lemmas.Bool.{cases_lt, true≢false, ne_eqb, eq-eqb, eqb-true, cond-false, or_left, or_right, or_cases}
use Rattle.std.specs.FinMap.{get}
use Rattle.std.specs.List.{AllByRecursion}
use Rattle.key_slots.specs.HashSlot.{slot_of}
use Rattle.store_commands.specs.Store.{Key, Store, is_named}
use Rattle.slot_marks.specs.Verdicts.{is_cross, first_slot}
use Rattle.cluster_world.specs.Worlds.{World, owner, migrating, importing, held}
use Rattle.cluster_world.specs.declared.event.Event.{Event}
use Rattle.cluster_world.specs.Honesty.{WasAsked}
use Rattle.plan_language.specs.declared.plan_command.PlanCommand.{PlanCommand}
use Rattle.plan_language.specs.declared.plan_command.PlanCommand.TheVariants as planned
use Rattle.cluster_admin.specs.Phases.{AreTwo, AreOthers, IsPhase, HasPhase, Phases, owner_in, may_lie}
use Rattle.cluster_admin.specs.Phases as phase
use Rattle.cluster_world.specs.Openness.{Open, IsOpenSlot, AskAllows}
use Rattle.plan_semantics.specs.Plans.{part, Legal, IsPart, Closes, last_told, first_owner, final_owner, among, IsDistinct, AreEnds, Leg, legs_of, AreLegs, tell}
use Rattle.reshard_theorem.proofs.Phases.{Phase, Closed, Importing, Migrating, Drained, TargetTold, SourceTold, own_in, goes_in, comes_in, may_hold, AskFine, Rest, Marks, Emptied, Data, More, leg_end}
use Rattle.reshard_theorem.proofs.Base.{Base, Inv, MarksIn}
use Rattle.reshard_theorem.proofs.Whole.{inner, part_end, marks_past}
use Rattle.reshard_theorem.specs.Starts.{Reshard, Starts}
use Rattle.plan_semantics.proofs.OnePhase.{all_among}

-- ---- lists of nodes

pub among_all : (P : ℕ → Type 0) (ns : List ℕ) → ((m : ℕ) → among m ns ≡ true → P m) → AllByRecursion P ns
among_all P [] h = tt
among_all P (x ∷ ns) h = (h x (or_left (eqb x x) (among x ns) (eq-eqb x x refl)), among_all P ns (λ m e. h m (or_right (eqb m x) (among m ns) e)))

some_among : (left others : List ℕ) → left ≢ [] → ((m : ℕ) → among m others ≡ among m left) → others ≢ []
some_among [] others some same e = some refl
some_among (x ∷ left) others some same e = true≢false (sym (or_left (eqb x x) (among x left) (eq-eqb x x refl)) ∙ sym (same x) ∙ ap (among x) e)

-- ---- past the last node no mark stands

past_goes : (n m : ℕ) (p : phase.Phase) → IsPhase n p → n ≤ m → phase.goes_in p m ≡ None
past_goes n m (phase.Closed o) fine h = refl
past_goes n m (phase.Importing s t) fine h = refl
past_goes n m (phase.Migrating s t) fine h = cond-false _ _ _ (ne_eqb m s (λ e. past n m s e fine.source_below h))
  where
    past : (n m s : ℕ) → m ≡ s → s < n → n ≤ m → ⊥
    past n m s e below h = omega arith
past_goes n m (phase.TargetTold s t) fine h = cond-false _ _ _ (ne_eqb m s (λ e. past n m s e fine.source_below h))
  where
    past : (n m s : ℕ) → m ≡ s → s < n → n ≤ m → ⊥
    past n m s e below h = omega arith
past_goes n m (phase.SourceTold s t left) fine h = refl

past_comes : (n m : ℕ) (p : phase.Phase) → IsPhase n p → n ≤ m → phase.comes_in p m ≡ None
past_comes n m (phase.Closed o) fine h = refl
past_comes n m (phase.Importing s t) fine h = cond-false _ _ _ (ne_eqb m t (λ e. past n m t e fine.target_below h))
  where
    past : (n m s : ℕ) → m ≡ s → s < n → n ≤ m → ⊥
    past n m s e below h = omega arith
past_comes n m (phase.Migrating s t) fine h = cond-false _ _ _ (ne_eqb m t (λ e. past n m t e fine.target_below h))
  where
    past : (n m s : ℕ) → m ≡ s → s < n → n ≤ m → ⊥
    past n m s e below h = omega arith
past_comes n m (phase.TargetTold s t) fine h = refl
past_comes n m (phase.SourceTold s t left) fine h = refl

-- ---- one slot

pub record Begun (n goal s : ℕ) (w : World) (before : List Event) (rest : List PlanCommand) : Type 0 where
  pub marks : Marks n goal s (λ m. owner w m s) (λ m. migrating w m s) (λ m. importing w m s) rest
  pub emptied : Emptied s marks.phase (held w)
  pub lies : Data w.base_port s marks.phase (held w) before

module _ (w : World) (before : List Event) (s goal : ℕ) (rest : List PlanCommand) where
  n : ℕ
  n = length w.nodes

  make : (p : phase.Phase) (q : Phase) → IsOpenSlot w before s p → Rest (length w.nodes) goal s q rest → ((m : ℕ) → own_in q m ≡ owner_in p m) → ((m : ℕ) → goes_in q m ≡ phase.goes_in p m) → ((m : ℕ) → comes_in q m ≡ phase.comes_in p m)
      → ((m : ℕ) → may_hold q m ≡ may_lie p m) → ((ks : List Key) (m : ℕ) → AskAllows p w ks m → AskFine q (held w) ks m) → Emptied s q (held w) → Begun (length w.nodes) goal s w before rest
  make p q slot left own goes comes hold asks emptied = record {
    marks = record {
      phase = q;
      left = left;
      owners = λ m h. slot.has.owners m h ∙ sym (own m);
      going = λ m. elim (cases_lt m (length w.nodes)) [
        | inl h ↦ slot.has.going m h ∙ sym (goes m)
        | inr h ↦ (marks_past w m s h).0 ∙ sym (goes m ∙ past_goes (length w.nodes) m p slot.has.fine h)
      ];
      coming = λ m. elim (cases_lt m (length w.nodes)) [
        | inl h ↦ slot.has.coming m h ∙ sym (comes m)
        | inr h ↦ (marks_past w m s h).1 ∙ sym (comes m ∙ past_comes (length w.nodes) m p slot.has.fine h)
      ];
    };
    emptied = emptied;
    lies = record { place = λ m k i e. slot.place m k i (sym (hold m) ∙ e); asked = λ ks m v one at. asks ks m (slot.asked ks m v one at) };
  }

  module _ (version : ℕ) where
    more_of : (p : phase.Phase) (i : IsPart version (length w.nodes) s p rest) → goal ≡ last_told (first_owner p) rest → (o : ℕ) → i.owner ≡ o → More (length w.nodes) goal s o (legs_of s o i.legs)
    more_of p i g o e = record { version = version; legs = i.legs; are = subst (λ x. AreLegs version (length w.nodes) x i.legs) e i.are; is = refl; end = ap (λ x. leg_end x i.legs) (sym e) ∙ part_end version (length w.nodes) s p rest i ∙ sym g }

    part_is : (p : phase.Phase) (i : IsPart version (length w.nodes) s p rest) (closing : List PlanCommand) (o : ℕ) → i.closing ≡ closing → i.owner ≡ o → rest ≡ closing ++ legs_of s o i.legs
    part_is p i closing o c e = i.is ∙ (λ j. c j ++ legs_of s (e j) i.legs)

    cons : {A : Type 0} (x : A) (xs ys : List A) → ys ≡ x ∷ xs → ys ≢ []
    cons x xs ys e f = cc

    begin : (p : phase.Phase) → IsOpenSlot w before s p → IsPart version (length w.nodes) s p rest → goal ≡ last_told (first_owner p) rest → Begun (length w.nodes) goal s w before rest
    begin (phase.Closed o) slot i g = make (phase.Closed o) (Closed o) slot left (λ m. refl) (λ m. refl) (λ m. refl) (λ m. refl) (λ ks m a. a) tt
      where
        left : Rest (length w.nodes) goal s (Closed o) rest
        left = record { owner_below = slot.has.fine; below = i.below; goes_on = subst (More (length w.nodes) goal s o) (sym (part_is (phase.Closed o) i [] o i.closes.0 i.closes.1)) (more_of (phase.Closed o) i g o i.closes.1) }
    begin (phase.Importing o t) slot i g = make (phase.Importing o t) (Importing o t) slot (left i.closes) (λ m. refl) (λ m. refl) (λ m. refl) (λ m. refl) (λ ks m a. a) tt
      where
        left : Closes version (length w.nodes) s (phase.Importing o t) i.closing i.owner → Rest (length w.nodes) goal s (Importing o t) rest
        left (inl c) = let e : rest ≡ planned.Stable s t ∷ legs_of s o i.legs = part_is (phase.Importing o t) i (planned.Stable s t ∷ []) o c.1 c.2 in
            inr (record { below = i.below (cons _ _ rest e); two = slot.has.fine; more = legs_of s o i.legs; goes_on = more_of (phase.Importing o t) i g o c.2; is = e })
        left (inr c) = let e : rest ≡ planned.Migrating s t o ∷ planned.Drain s o t c.0 ∷ planned.SetNode s t t ∷ planned.SetNode s t o ∷ (tell s t c.1 ++ legs_of s t i.legs) = part_is (phase.Importing o t) i _ t c.5 c.4 in
            inl (record { below = i.below (cons _ _ rest e); batch = c.0; others = c.1; some = c.2; ends = c.3; more = legs_of s t i.legs; goes_on = more_of (phase.Importing o t) i g t c.4; is = e })
    begin (phase.Migrating o t) slot i g = make (phase.Migrating o t) (Migrating o t) slot (left i.closes) (λ m. refl) (λ m. refl) (λ m. refl) (λ m. refl) (λ ks m a. a) tt
      where
        left : Closes version (length w.nodes) s (phase.Migrating o t) i.closing i.owner → Rest (length w.nodes) goal s (Migrating o t) rest
        left c = let e : rest ≡ planned.Drain s o t c.0 ∷ planned.SetNode s t t ∷ planned.SetNode s t o ∷ (tell s t c.1 ++ legs_of s t i.legs) = part_is (phase.Migrating o t) i _ t c.5 c.4 in
            record { below = i.below (cons _ _ rest e); batch = c.0; others = c.1; some = c.2; ends = c.3; more = legs_of s t i.legs; goes_on = more_of (phase.Migrating o t) i g t c.4; is = e }
    begin (phase.TargetTold o t) slot i g = make (phase.TargetTold o t) (TargetTold o t) slot (left i.closes) (λ m. refl) (λ m. refl) (λ m. refl) (λ m. refl) (λ ks m a. tt) (λ k j. slot.place o k j (ne_eqb o t slot.has.fine.apart))
      where
        left : Closes version (length w.nodes) s (phase.TargetTold o t) i.closing i.owner → Rest (length w.nodes) goal s (TargetTold o t) rest
        left c = let e : rest ≡ planned.SetNode s t o ∷ (tell s t c.0 ++ legs_of s t i.legs) = part_is (phase.TargetTold o t) i _ t c.3 c.2 in
            record { below = i.below (cons _ _ rest e); others = c.0; ends = c.1; more = legs_of s t i.legs; goes_on = more_of (phase.TargetTold o t) i g t c.2; is = e }
    begin (phase.SourceTold o t told) slot i g = make (phase.SourceTold o t told) (SourceTold o t others) slot left (λ m. ap (λ b. cond b o t) (same m)) (λ m. refl) (λ m. refl) (λ m. refl) (λ ks m a. tt) tt
      where
        others : List ℕ
        others = i.closes.0

        same : (m : ℕ) → among m others ≡ among m told
        same = i.closes.2

        fine : IsPhase (length w.nodes) (phase.SourceTold o t told)
        fine = slot.has.fine

        some : others ≢ []
        some = some_among told others fine.2 same

        e : rest ≡ tell s t others ++ legs_of s t i.legs
        e = part_is (phase.SourceTold o t told) i _ t i.closes.4 i.closes.3

        tells : (ns : List ℕ) (more : List PlanCommand) → ns ≢ [] → tell s t ns ++ more ≢ []
        tells [] more h f = h refl
        tells (x ∷ ns) more h f = cc

        left : Rest (length w.nodes) goal s (SourceTold o t others) rest
        left = record {
          below = i.below (λ f. tells others (legs_of s t i.legs) some (sym e ∙ f));
          two = fine.0;
          others = record { each_other = among_all _ others (λ m h. all_among _ told fine.1.each_other m (sym (same m) ∙ h)); distinct = i.closes.1 };
          some = some;
          more = legs_of s t i.legs;
          goes_on = more_of (phase.SourceTold o t told) i g t i.closes.3;
          is = e;
        }

-- ---- the whole world

module _ (reshard : Reshard) (starts : Starts reshard) where
  pub begun : (s : ℕ) → Begun (length reshard.first.nodes) (final_owner reshard.plan reshard.phases s) s reshard.first reshard.before (part reshard.plan s)
  begun s = begin reshard.first reshard.before s (final_owner reshard.plan reshard.phases s) (part reshard.plan s) reshard.version (reshard.phases s) (starts.is_open.slots s) (starts.legal s) refl

  pub start : Inv (length reshard.first.nodes) (final_owner reshard.plan reshard.phases) reshard.first reshard.before reshard.plan None reshard.store
  start = record {
    base = record {
      size = refl;
      widths = starts.is_open.widths;
      marks = λ s. (begun s).marks;
      emptied = λ s. (begun s).emptied;
      listing = tt;
    };
    lies = λ s. (begun s).lies;
    split = starts.is_open.split;
  }
