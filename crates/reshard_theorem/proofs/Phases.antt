-- The phases of a slot's move, and what holds in each.
use Rattle.std.proofs.Common.{◌≡◌, ◌≢◌, ◌⊎◌, ℕ, ◌<◌, ◌≤◌, Bool, true, false, cond, not, eqb, ◌||◌, List, [], ◌∷◌, map, Option, Some, None, is_some, sym, refl, ap, ◌∙◌, subst, inl, inr}
use Rattle.std.proofs.lemmas.Bool.{cases_Bool, cases_eq, true≢false, eqb-true, ne_eqb, eq-eqb, not-false, or_left, or_right, cond-true, cond-false}
use Rattle.std.specs.List.{AllByRecursion}
use Rattle.store_commands.specs.Store.{Key, is_named}
use Rattle.key_slots.specs.HashSlot.{slot_of}
use Rattle.slot_marks.specs.Verdicts.{is_cross, first_slot}
use Rattle.cluster_world.specs.declared.event.Event.{Event}
use Rattle.plan_language.specs.declared.plan_command.PlanCommand.{PlanCommand}
use Rattle.plan_language.specs.declared.plan_command.PlanCommand.TheVariants as planned
use Rattle.std.specs.Prelude.{slice_index}
use Rattle.std.proofs.Common.{suc, length, ◌++◌}
use Rattle.cluster_admin.specs.Phases.{AreTwo, AreOthers}
use Rattle.plan_semantics.specs.Plans.{among, IsDistinct, AreEnds, tell, Leg, Move, Try, legs_of, AreLegs}
use Rattle.cluster_world.specs.Honesty.{WasAsked}
use Rattle.plan_semantics.proofs.OnePhase.{not_among}
use Rattle.reshard_theorem.proofs.Split.{Contents, Whole, Splits, IsAlone, has_home}
use Rattle.reshard_theorem.proofs.Verdicts.{none_named}

pub data Phase : Type 0 where
  Closed : (owner : ℕ) → Phase
  Importing : (source target : ℕ) → Phase
  Migrating : (source target : ℕ) → Phase
  Drained : (source target : ℕ) → Phase
  TargetTold : (source target : ℕ) → Phase
  SourceTold : (source target : ℕ) (left : List ℕ) → Phase

-- what node n has on the slot
abbrev pub own_in : Phase → ℕ → ℕ
own_in (Closed o) n = o
own_in (Importing s t) n = s
own_in (Migrating s t) n = s
own_in (Drained s t) n = s
own_in (TargetTold s t) n = cond (eqb n t) t s
own_in (SourceTold s t left) n = cond (among n left) s t

abbrev pub goes_in : Phase → ℕ → Option ℕ
goes_in (Closed o) n = None
goes_in (Importing s t) n = None
goes_in (Migrating s t) n = cond (eqb n s) (Some t) None
goes_in (Drained s t) n = cond (eqb n s) (Some t) None
goes_in (TargetTold s t) n = cond (eqb n s) (Some t) None
goes_in (SourceTold s t left) n = None

abbrev pub comes_in : Phase → ℕ → Option ℕ
comes_in (Closed o) n = None
comes_in (Importing s t) n = cond (eqb n t) (Some s) None
comes_in (Migrating s t) n = cond (eqb n t) (Some s) None
comes_in (Drained s t) n = cond (eqb n t) (Some s) None
comes_in (TargetTold s t) n = None
comes_in (SourceTold s t left) n = None

-- whether node n may hold keys of the slot
abbrev pub may_hold : Phase → ℕ → Bool
may_hold (Closed o) n = eqb n o
may_hold (Importing s t) n = eqb n s
may_hold (Migrating s t) n = eqb n s || eqb n t
may_hold (Drained s t) n = eqb n t
may_hold (TargetTold s t) n = eqb n t
may_hold (SourceTold s t left) n = eqb n t

-- a slot whose last nodes are being told: once there is none, it is closed
abbrev pub telling : (source target : ℕ) (left : List ℕ) → Phase
telling o t [] = Closed t
telling o t (m ∷ left) = SourceTold o t (m ∷ left)

-- what is known of keys of the slot that some event answered with an ASK to the node, since the node imports the slot
abbrev pub AskFine : Phase → Contents → List Key → ℕ → Type 0
AskFine (Closed o) has ks n = Unit {0}
AskFine (Importing s t) has ks n = n ≢ t
AskFine (Migrating s t) has ks n = n ≡ t → (q : Key) → is_named q ks ≡ true → has s q ≡ None
AskFine (Drained s t) has ks n = Unit {0}
AskFine (TargetTold s t) has ks n = Unit {0}
AskFine (SourceTold s t left) has ks n = Unit {0}

-- the owner after the legs
abbrev pub leg_end : ℕ → List Leg → ℕ
leg_end o [] = o
leg_end o (Move t b others ∷ legs) = leg_end t legs
leg_end o (Try t ∷ legs) = leg_end o legs

-- moves and tries from a closed slot on; `goal` is its owner in the end
pub record More (n goal s o : ℕ) (rest : List PlanCommand) : Type 0 where
  pub version : ℕ
  pub legs : List Leg
  pub are : AreLegs version n o legs
  pub is : rest ≡ legs_of s o legs
  pub end : leg_end o legs ≡ goal

pub record ClosedRest (n goal s o : ℕ) (rest : List PlanCommand) : Type 0 where
  pub owner_below : o < n
  pub below : rest ≢ [] → s < 16384
  pub goes_on : More n goal s o rest

pub record ImportingRest (n goal s o t : ℕ) (rest : List PlanCommand) : Type 0 where
  pub below : s < 16384
  pub batch : ℕ
  pub others : List ℕ
  pub some : 0 < batch
  pub ends : AreEnds n o t others
  pub more : List PlanCommand
  pub goes_on : More n goal s t more
  pub is : rest ≡ planned.Migrating s t o ∷ planned.Drain s o t batch ∷ planned.SetNode s t t ∷ planned.SetNode s t o ∷ (tell s t others ++ more)

pub record BackRest (n goal s o t : ℕ) (rest : List PlanCommand) : Type 0 where
  pub below : s < 16384
  pub two : AreTwo n o t
  pub more : List PlanCommand
  pub goes_on : More n goal s o more
  pub is : rest ≡ planned.Stable s t ∷ more

pub record MigratingRest (n goal s o t : ℕ) (rest : List PlanCommand) : Type 0 where
  pub below : s < 16384
  pub batch : ℕ
  pub others : List ℕ
  pub some : 0 < batch
  pub ends : AreEnds n o t others
  pub more : List PlanCommand
  pub goes_on : More n goal s t more
  pub is : rest ≡ planned.Drain s o t batch ∷ planned.SetNode s t t ∷ planned.SetNode s t o ∷ (tell s t others ++ more)

pub record DrainedRest (n goal s o t : ℕ) (rest : List PlanCommand) : Type 0 where
  pub below : s < 16384
  pub others : List ℕ
  pub ends : AreEnds n o t others
  pub more : List PlanCommand
  pub goes_on : More n goal s t more
  pub is : rest ≡ planned.SetNode s t t ∷ planned.SetNode s t o ∷ (tell s t others ++ more)

pub record TargetToldRest (n goal s o t : ℕ) (rest : List PlanCommand) : Type 0 where
  pub below : s < 16384
  pub others : List ℕ
  pub ends : AreEnds n o t others
  pub more : List PlanCommand
  pub goes_on : More n goal s t more
  pub is : rest ≡ planned.SetNode s t o ∷ (tell s t others ++ more)

pub record SourceToldRest (n goal s o t : ℕ) (left : List ℕ) (rest : List PlanCommand) : Type 0 where
  pub below : s < 16384
  pub two : AreTwo n o t
  pub others : AreOthers n o t left
  pub some : left ≢ []
  pub more : List PlanCommand
  pub goes_on : More n goal s t more
  pub is : rest ≡ tell s t left ++ more

-- what is left of the plan's commands for the slot; `goal` is its owner in the end
abbrev pub Rest : (n goal s : ℕ) → Phase → List PlanCommand → Type 0
Rest n goal s (Closed o) rest = ClosedRest n goal s o rest
Rest n goal s (Importing o t) rest = ImportingRest n goal s o t rest ⊎ BackRest n goal s o t rest
Rest n goal s (Migrating o t) rest = MigratingRest n goal s o t rest
Rest n goal s (Drained o t) rest = DrainedRest n goal s o t rest
Rest n goal s (TargetTold o t) rest = TargetToldRest n goal s o t rest
Rest n goal s (SourceTold o t left) rest = SourceToldRest n goal s o t left rest

-- What owners and marks of one slot say, whatever clients do
pub record Marks (n goal s : ℕ) (own : ℕ → ℕ) (goes comes : ℕ → Option ℕ) (rest : List PlanCommand) : Type 0 where
  pub phase : Phase
  pub left : Rest n goal s phase rest
  pub owners : (m : ℕ) → m < n → own m ≡ own_in phase m
  pub going : (m : ℕ) → goes m ≡ goes_in phase m
  pub coming : (m : ℕ) → comes m ≡ comes_in phase m

-- the source of a drained slot stays without keys, whatever clients do
abbrev pub Emptied : ℕ → Phase → Contents → Type 0
Emptied s (Closed o) has = Unit {0}
Emptied s (Importing o t) has = Unit {0}
Emptied s (Migrating o t) has = Unit {0}
Emptied s (Drained o t) has = (k : Key) → slot_of k ≡ s → has o k ≡ None
Emptied s (TargetTold o t) has = (k : Key) → slot_of k ≡ s → has o k ≡ None
Emptied s (SourceTold o t left) has = Unit {0}

-- What the counts of the slot's migrations, of which i are drained, say of the counts h that nodes have now
abbrev pub CountOk : List ℕ → ℕ → (ℕ → ℕ) → Phase → Type 0
CountOk ks i h (Closed o) = length ks ≡ i
CountOk ks i h (Importing o t) = length ks ≡ i
CountOk ks i h (Migrating o t) = (length ks ≡ suc i) × (h o ≤ slice_index ks i)
CountOk ks i h (Drained o t) = length ks ≡ i
CountOk ks i h (TargetTold o t) = length ks ≡ i
CountOk ks i h (SourceTold o t left) = length ks ≡ i

-- where no client comes between and the drain has not begun, the source still holds what was counted
abbrev pub Fresh : List ℕ → ℕ → (ℕ → ℕ) → Phase → Type 0
Fresh ks i h (Closed o) = Unit {0}
Fresh ks i h (Importing o t) = Unit {0}
Fresh ks i h (Migrating o t) = h o ≡ slice_index ks i
Fresh ks i h (Drained o t) = Unit {0}
Fresh ks i h (TargetTold o t) = Unit {0}
Fresh ks i h (SourceTold o t left) = Unit {0}

-- Where the slot's keys lie, if clients are honest
pub record Data (port s : ℕ) (phase : Phase) (has : Contents) (past : List Event) : Type 0 where
  pub place : (m : ℕ) (k : Key) → slot_of k ≡ s → may_hold phase m ≡ false → has m k ≡ None
  pub asked : (ks : List Key) (m : ℕ) → WasAsked port past ks m → is_cross ks ≡ false → first_slot ks ≡ s → AskFine phase has ks m

-- ---- small facts

pub named_slot : (ks : List Key) → is_cross ks ≡ false → (q : Key) → is_named q ks ≡ true → slot_of q ≡ first_slot ks
named_slot ks one q e = eqb-true (slot_of q) (first_slot ks) (not-false (eqb (slot_of q) (first_slot ks)) (none_named (λ k. not (eqb (slot_of k) (first_slot ks))) ks one q e))

pub none_cond : {A : Type 0} (b : Bool) (v : A) → cond b (Some v) None ≢ None → b ≡ true
none_cond true v e = refl
none_cond false v e = absurd (e refl)

pub both_false : (a b : Bool) → a ≡ false → b ≡ false → (a || b) ≡ false
both_false a b p q = ap (λ c. c || b) p ∙ q

moving_source : (o t a b : ℕ) → Migrating o t ≡ Migrating a b → o ≡ a
moving_source o t a b e = cc

pub marked : (x o t : ℕ) → x ≡ o → cond (eqb x o) (Some t) None ≢ None
marked x o t e p = some_none t (sym (cond-true (eqb x o) (Some t) None (eq-eqb x o e)) ∙ p)
  where
    some_none : (m : ℕ) → Some m ≡ None → ⊥
    some_none m u = true≢false (ap is_some u)

-- ---- a command that is served

-- Fits: where a node serves the keys, it may hold them, no other node has them, and nothing that was asked for elsewhere comes to stand there
pub record Fits (phase : Phase) (has : Contents) (x : ℕ) (ks : List Key) : Type 0 where
  pub alone : IsAlone has ks x
  pub holds : (q : Key) → is_named q ks ≡ true → may_hold phase x ≡ true
  pub keeps : (s t : ℕ) → phase ≡ Migrating s t → x ≡ s → (q : Key) → is_named q ks ≡ true → is_some (has s q) ≡ true

eqb_itself : (a : ℕ) → eqb a a ≡ true
eqb_itself a = eq-eqb a a refl

module _ (s : ℕ) (has : Contents) (all : Whole) (ks : List Key) (split : Splits has all) (one : is_cross ks ≡ false) (slot : first_slot ks ≡ s) where
  of_slot : (q : Key) → is_named q ks ≡ true → slot_of q ≡ s
  of_slot q e = named_slot ks one q e ∙ slot

  -- the node is the only one that may hold keys of the slot
  fits_only : (phase : Phase) (a x : ℕ) → ((m : ℕ) (k : Key) → slot_of k ≡ s → eqb m a ≡ false → has m k ≡ None) → a ≡ x → may_hold phase a ≡ true
      → ((o t : ℕ) → phase ≡ Migrating o t → ⊥) → Fits phase has x ks
  fits_only phase a x place e may not_moving = record {
    alone = λ q m i p. place m q (of_slot q i) (ne_eqb m a (λ u. p (u ∙ e)));
    holds = λ q i. subst (λ y. may_hold phase y ≡ true) e may;
    keeps = λ o t u. absurd (not_moving o t u);
  }

  -- the node has all the keys, and may hold none
  fits_none : (phase : Phase) (x : ℕ) → ((k : Key) → slot_of k ≡ s → has x k ≡ None) → ((q : Key) → is_named q ks ≡ true → is_some (has x q) ≡ true)
      → ((o t : ℕ) → phase ≡ Migrating o t → ⊥) → Fits phase has x ks
  fits_none phase x none present not_moving =
      let no : (q : Key) → is_named q ks ≡ true → ⊥ = λ q i. true≢false (sym (present q i) ∙ ap is_some (none q (of_slot q i))) in
      record {
        alone = λ q m i p. absurd (no q i);
        holds = λ q i. absurd (no q i);
        keeps = λ o t u. absurd (not_moving o t u);
      }

  pub fits_in : (n goal : ℕ) (phase : Phase) (rest : List PlanCommand) → Rest n goal s phase rest → (x : ℕ)
      → ((m : ℕ) (k : Key) → slot_of k ≡ s → may_hold phase m ≡ false → has m k ≡ None)
      → ((comes_in phase x ≢ None) × AskFine phase has ks x) ⊎ ((own_in phase x ≡ x) × (goes_in phase x ≢ None → (q : Key) → is_named q ks ≡ true → is_some (has x q) ≡ true))
      → Fits phase has x ks
  fits_in n goal (Closed o) rest left x place (inl w) = absurd (w.0 refl)
  fits_in n goal (Closed o) rest left x place (inr w) = fits_only (Closed o) o x place w.0 (eqb_itself o) (λ a b e. cc)
  fits_in n goal (Importing o t) rest left x place (inl w) = absurd (w.1 (eqb-true x t (none_cond (eqb x t) o w.0)))
  fits_in n goal (Importing o t) rest left x place (inr w) = fits_only (Importing o t) o x place w.0 (eqb_itself o) (λ a b e. cc)
  fits_in n goal (Migrating o t) rest left x place (inl w) =
      let e : x ≡ t = eqb-true x t (none_cond (eqb x t) o w.0) in
      record {
        alone = λ q m i p. elim (cases_eq m o) [
          | inl u ↦ ap (λ y. has y q) u ∙ w.1 e q i
          | inr u ↦ place m q (of_slot q i) (both_false (eqb m o) (eqb m t) (ne_eqb m o u) (ne_eqb m t (λ v. p (v ∙ sym e))))
        ];
        holds = λ q i. or_right (eqb x o) (eqb x t) (eq-eqb x t e);
        keeps = λ a b u v. absurd (left.ends.apart (moving_source o t a b u ∙ sym v ∙ e));
      }
  fits_in n goal (Migrating o t) rest left x place (inr w) =
      let present : (q : Key) → is_named q ks ≡ true → is_some (has x q) ≡ true = w.1 (marked x o t (sym w.0)) in
      record {
        alone = λ q m i p. (split q).2 m (λ u. p (u ∙ sym (has_home has all split q x (present q i))));
        holds = λ q i. or_left (eqb x o) (eqb x t) (eq-eqb x o (sym w.0));
        keeps = λ a b u v q i. subst (λ y. is_some (has y q) ≡ true) v (present q i);
      }
  fits_in n goal (Drained o t) rest left x place (inl w) = fits_only (Drained o t) t x place (sym (eqb-true x t (none_cond (eqb x t) o w.0))) (eqb_itself t) (λ a b e. cc)
  fits_in n goal (Drained o t) rest left x place (inr w) =
      fits_none (Drained o t) x (λ k i. place x k i (ne_eqb x t (λ u. left.ends.apart (w.0 ∙ u)))) (w.1 (marked x o t (sym w.0))) (λ a b e. cc)
  fits_in n goal (TargetTold o t) rest left x place (inl w) = absurd (w.0 refl)
  fits_in n goal (TargetTold o t) rest left x place (inr w) = elim (cases_eq x t) [
    | inl u ↦ fits_only (TargetTold o t) t x place (sym u) (eqb_itself t) (λ a b e. cc)
    | inr u ↦ (let e : o ≡ x = sym (cond-false (eqb x t) t o (ne_eqb x t u)) ∙ w.0 in
        fits_none (TargetTold o t) x (λ k i. place x k i (ne_eqb x t u)) (w.1 (marked x o t (sym e))) (λ a b e. cc))
  ]
  fits_in n goal (SourceTold o t told) rest left x place (inl w) = absurd (w.0 refl)
  fits_in n goal (SourceTold o t told) rest left x place (inr w) = elim (cases_Bool (among x told)) [
    | inl u ↦ (let e : o ≡ x = sym (cond-true (among x told) o t u) ∙ w.0 in
        absurd (true≢false (sym u ∙ not_among n o t told x left.others.each_other (inl (sym e)))))
    | inr u ↦ fits_only (SourceTold o t told) t x place (sym (cond-false (among x told) o t u) ∙ w.0) (eqb_itself t) (λ a b e. cc)
  ]

-- ---- what keeps a slot

pub ask_kept : (phase : Phase) (has has' : Contents) (ks : List Key) (n : ℕ)
    → ((o t : ℕ) → phase ≡ Migrating o t → (q : Key) → is_named q ks ≡ true → has o q ≡ None → has' o q ≡ None) → AskFine phase has ks n → AskFine phase has' ks n
ask_kept (Closed o) has has' ks n same h = h
ask_kept (Importing o t) has has' ks n same h = h
ask_kept (Migrating o t) has has' ks n same h = λ p q e. same o t refl q e (h p q e)
ask_kept (Drained o t) has has' ks n same h = h
ask_kept (TargetTold o t) has has' ks n same h = h
ask_kept (SourceTold o t told) has has' ks n same h = h

pub marks_same : (n goal s : ℕ) (own own' : ℕ → ℕ) (goes goes' comes comes' : ℕ → Option ℕ) (rest : List PlanCommand)
    → (ok : Marks n goal s own goes comes rest) → ((m : ℕ) → own' m ≡ own m) → ((m : ℕ) → goes' m ≡ goes m) → ((m : ℕ) → comes' m ≡ comes m)
    → (new : Marks n goal s own' goes' comes' rest) × (new.phase ≡ ok.phase)
marks_same n goal s own own' goes goes' comes comes' rest ok a b c = (
  record {
    phase = ok.phase;
    left = ok.left;
    owners = λ m h. a m ∙ ok.owners m h;
    going = λ m. b m ∙ ok.going m;
    coming = λ m. c m ∙ ok.coming m;
  },
  refl,
)

pub emptied_same : (s : ℕ) (phase : Phase) (has has' : Contents) → ((m : ℕ) (k : Key) → slot_of k ≡ s → has' m k ≡ has m k) → Emptied s phase has → Emptied s phase has'
emptied_same s (Closed o) has has' same h = h
emptied_same s (Importing o t) has has' same h = h
emptied_same s (Migrating o t) has has' same h = h
emptied_same s (Drained o t) has has' same h = λ k e. same o k e ∙ h k e
emptied_same s (TargetTold o t) has has' same h = λ k e. same o k e ∙ h k e
emptied_same s (SourceTold o t left) has has' same h = h

-- nothing of the slot changes
pub data_same : (port s : ℕ) (phase : Phase) (has has' : Contents) (past past' : List Event) → Data port s phase has past
    → ((m : ℕ) (k : Key) → slot_of k ≡ s → has' m k ≡ has m k) → ((ks : List Key) (m : ℕ) → WasAsked port past' ks m → is_cross ks ≡ false → first_slot ks ≡ s → WasAsked port past ks m)
    → Data port s phase has' past'
data_same port s phase has has' past past' ok same earlier = record {
  place = λ m k i e. same m k i ∙ ok.place m k i e;
  asked = λ ks m w one slot. ask_kept phase has has' ks m (λ o t p q e none. same o q (named_slot ks one q e ∙ slot) ∙ none) (ok.asked ks m (earlier ks m w one slot) one slot);
}
