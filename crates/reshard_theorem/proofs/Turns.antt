-- What each command of a plan does to the phase of its slot.
use Rattle.std.proofs.Common.{◌≡◌, ◌≢◌, ℕ, ◌<◌, Bool, true, false, cond, not, eqb, ◌&&◌, ◌||◌, List, [], ◌∷◌, map, Option, Some, None, sym, refl, ap, ◌∙◌, subst, subst₂, inl, inr}
use Rattle.std.proofs.lemmas.Bool.{cases_eq, true≢false, ne_eqb, eq-eqb, or_left, and_right, cond-true, cond-false}
use Rattle.std.specs.List.{AllByRecursion}
use Rattle.store_commands.specs.Store.{Key}
use Rattle.key_slots.specs.HashSlot.{slot_of}
use Rattle.plan_language.specs.declared.plan_command.PlanCommand.{PlanCommand}
use Rattle.plan_language.specs.declared.plan_command.PlanCommand.TheVariants as planned
use Rattle.std.proofs.Common.{length, suc, ◌++◌}
use Rattle.cluster_admin.specs.Phases.{AreTwo, AreOthers}
use Rattle.plan_semantics.specs.Plans.{among, IsDistinct, AreEnds, tell, Leg, Move, Try, legs_of, AreLegs}
use Rattle.plan_semantics.proofs.OnePhase.{not_among}
use Rattle.reshard_theorem.proofs.Split.{Contents}
use Rattle.reshard_theorem.proofs.Phases.{Phase, Closed, Importing, Migrating, Drained, TargetTold, SourceTold, telling, own_in, goes_in, comes_in, may_hold, AskFine, Rest, Marks, Emptied, CountOk, Fresh, More, leg_end, ClosedRest, ImportingRest, BackRest, MigratingRest, DrainedRest, TargetToldRest, SourceToldRest}

both_none : (b : Bool) → cond {A = Option ℕ} b None None ≡ None
both_none true = refl
both_none false = refl

-- a mark of the node that is told goes
gone : (a b c : Bool) (o v : Option ℕ) → b ≡ true → a ≡ c → o ≡ cond c v None → cond (a && b) None o ≡ None
gone true true c o v p q r = refl
gone true false c o v p q r = absurd (true≢false (sym p))
gone false b c o v p q r = r ∙ ap (λ x. cond x v None) (sym q)

own_telling : (o t : ℕ) (left : List ℕ) (m : ℕ) → own_in (telling o t left) m ≡ cond (among m left) o t
own_telling o t [] m = refl
own_telling o t (x ∷ left) m = refl

goes_telling : (o t : ℕ) (left : List ℕ) (m : ℕ) → goes_in (telling o t left) m ≡ None
goes_telling o t [] m = refl
goes_telling o t (x ∷ left) m = refl

comes_telling : (o t : ℕ) (left : List ℕ) (m : ℕ) → comes_in (telling o t left) m ≡ None
comes_telling o t [] m = refl
comes_telling o t (x ∷ left) m = refl

hold_telling : (o t : ℕ) (left : List ℕ) (m : ℕ) → may_hold (telling o t left) m ≡ eqb m t
hold_telling o t [] m = refl
hold_telling o t (x ∷ left) m = refl

free_telling : (o t : ℕ) (left : List ℕ) (has : Contents) (ks : List Key) (m : ℕ) → AskFine (telling o t left) has ks m
free_telling o t [] has ks m = tt
free_telling o t (x ∷ left) has ks m = tt

counted_telling : (o t : ℕ) (left : List ℕ) (ks : List ℕ) (i : ℕ) (h : ℕ → ℕ) → length ks ≡ i → CountOk ks i h (telling o t left)
counted_telling o t [] ks i h e = e
counted_telling o t (x ∷ left) ks i h e = e

fresh_telling : (o t : ℕ) (left : List ℕ) (ks : List ℕ) (i : ℕ) (h : ℕ → ℕ) → Fresh ks i h (telling o t left)
fresh_telling o t [] ks i h = tt
fresh_telling o t (x ∷ left) ks i h = tt

empties_telling : (s o t : ℕ) (left : List ℕ) (has : Contents) → Emptied s (telling o t left) has
empties_telling s o t [] has = tt
empties_telling s o t (x ∷ left) has = tt

rest_telling : (n goal s o t : ℕ) (left : List ℕ) (rest more : List PlanCommand) → s < 16384 → AreTwo n o t → AreOthers n o t left → More n goal s t more → rest ≡ tell s t left ++ more → Rest n goal s (telling o t left) rest
rest_telling n goal s o t [] rest more below two others goes_on is = record { owner_below = two.target_below; below = λ e. below; goes_on = subst (More n goal s t) (sym is) goes_on }
rest_telling n goal s o t (x ∷ left) rest more below two others goes_on is = record { below = below; two = two; others = others; some = λ e. cc; more = more; goes_on = goes_on; is = is }

pub two_of : (n o t : ℕ) (others : List ℕ) → AreEnds n o t others → AreTwo n o t
two_of n o t others ends = record { apart = ends.apart; source_below = ends.source_below; target_below = ends.target_below }

module _ (n goal s : ℕ) (own own' : ℕ → ℕ) (goes goes' comes comes' : ℕ → Option ℕ) (rest : List PlanCommand) where
  pub record Opened (o t : ℕ) (before : Phase) : Type 0 where
    pub was : before ≡ Closed o
    pub apart : o ≢ t
    pub source_below : o < n
    pub target_below : t < n
    pub slot_below : s < 16384
    pub owned : (m : ℕ) → m < n → own m ≡ o
    pub next : ((m : ℕ) → own' m ≡ own m) → ((m : ℕ) → goes' m ≡ goes m) → ((m : ℕ) → comes' m ≡ cond (eqb m t) (Some o) (comes m))
        → (new : Marks n goal s own' goes' comes' rest) × (new.phase ≡ Importing o t)

  opened_by : (o t : ℕ) (ok : Marks n goal s own goes comes (planned.Importing s o t ∷ rest)) → ok.phase ≡ Closed o → s < 16384 → AreTwo n o t → Rest n goal s (Importing o t) rest → Opened o t ok.phase
  opened_by o t ok at below two left = record {
    was = at;
    apart = two.apart;
    source_below = two.source_below;
    target_below = two.target_below;
    slot_below = below;
    owned = λ m h. ok.owners m h ∙ ap (λ f. own_in f m) at;
    next = λ a b c. (
      record {
        phase = Importing o t;
        left = left;
        owners = λ m h. a m ∙ ok.owners m h ∙ ap (λ f. own_in f m) at;
        going = λ m. b m ∙ ok.going m ∙ ap (λ f. goes_in f m) at;
        coming = λ m. c m ∙ ap (cond (eqb m t) (Some o)) (ok.coming m ∙ ap (λ f. comes_in f m) at);
      },
      refl,
    );
  }

  open_leg : (o t : ℕ) (ok : Marks n goal s own goes comes (planned.Importing s o t ∷ rest)) (x v : ℕ) → ok.phase ≡ Closed x → s < 16384 → (legs : List Leg) → AreLegs v n x legs
      → planned.Importing s o t ∷ rest ≡ legs_of s x legs → leg_end x legs ≡ goal → Opened o t ok.phase
  open_leg o t ok x v at below [] are is end = cc
  open_leg o t ok x v at below (Move to b others ∷ legs) are is end =
      let source : o ≡ x = cc in
      let target : t ≡ to = cc in
      let left : ImportingRest n goal s x to rest = record { below = below; batch = b; others = others; some = are.0; ends = are.1; more = legs_of s to legs; goes_on = record { version = v; legs = legs; are = are.2; is = refl; end = end }; is = cc } in
      opened_by o t ok (at ∙ ap Closed (sym source)) below (subst₂ (λ a c. AreTwo n a c) (sym source) (sym target) (two_of n x to others are.1)) (inl (subst₂ (λ a c. ImportingRest n goal s a c rest) (sym source) (sym target) left))
  open_leg o t ok x v at below (Try to ∷ legs) are is end =
      let source : o ≡ x = cc in
      let target : t ≡ to = cc in
      let left : BackRest n goal s x to rest = record { below = below; two = are.1; more = legs_of s x legs; goes_on = record { version = v; legs = legs; are = are.2; is = refl; end = end }; is = cc } in
      opened_by o t ok (at ∙ ap Closed (sym source)) below (subst₂ (λ a c. AreTwo n a c) (sym source) (sym target) are.1) (inr (subst₂ (λ a c. BackRest n goal s a c rest) (sym source) (sym target) left))

  pub opened : (o t : ℕ) (ok : Marks n goal s own goes comes (planned.Importing s o t ∷ rest)) → Opened o t ok.phase
  opened o t ok = by ok.phase refl ok.left
    where
      some : planned.Importing s o t ∷ rest ≢ []
      some e = cc

      by : (p : Phase) → ok.phase ≡ p → Rest n goal s p (planned.Importing s o t ∷ rest) → Opened o t ok.phase
      by (Closed x) e l = open_leg o t ok x l.goes_on.version e (l.below some) l.goes_on.legs l.goes_on.are l.goes_on.is l.goes_on.end
      by (Importing a b) e (inl l) = cc (l.is)
      by (Importing a b) e (inr l) = cc (l.is)
      by (Migrating a b) e l = cc (l.is)
      by (Drained a b) e l = cc (l.is)
      by (TargetTold a b) e l = cc (l.is)
      by (SourceTold a b []) e l = absurd (l.some refl)
      by (SourceTold a b (m ∷ told)) e l = cc (l.is)

  -- ---- no leg begins with another command

  not_leg : (x v : ℕ) (c : PlanCommand) → ((t : ℕ) → c ≡ planned.Importing s x t → ⊥) → (legs : List Leg) → c ∷ rest ≡ legs_of s x legs → ⊥
  not_leg x v c other [] is = cc
  not_leg x v c other (Move to b others ∷ legs) is = other to cc
  not_leg x v c other (Try to ∷ legs) is = other to cc

  pub record Sent (o t at : ℕ) (before : Phase) : Type 0 where
    pub was : before ≡ Importing o t
    pub at_source : at ≡ o
    pub apart : o ≢ t
    pub target_below : t < n
    pub source_below : o < n
    pub owned : own o ≡ o
    pub next : ((m : ℕ) → own' m ≡ own m) → ((m : ℕ) → goes' m ≡ cond (eqb m o) (Some t) (goes m)) → ((m : ℕ) → comes' m ≡ comes m)
        → (new : Marks n goal s own' goes' comes' rest) × (new.phase ≡ Migrating o t)

  sent_opening : (t at a b : ℕ) (ok : Marks n goal s own goes comes (planned.Migrating s t at ∷ rest)) → ok.phase ≡ Importing a b → ImportingRest n goal s a b (planned.Migrating s t at ∷ rest) → (o : ℕ) × Sent o t at ok.phase
  sent_opening t at a b ok e l = (
    a,
    record {
      was = e ∙ ap (Importing a) (sym to);
      at_source = here;
      apart = λ u. l.ends.apart (u ∙ to);
      target_below = subst (λ x. x < n) (sym to) l.ends.target_below;
      source_below = l.ends.source_below;
      owned = ok.owners a l.ends.source_below ∙ ap (λ f. own_in f a) e;
      next = λ x y z. (
        record {
          phase = Migrating a t;
          left = subst (λ c. MigratingRest n goal s a c rest) (sym to) tail;
          owners = λ m h. x m ∙ ok.owners m h ∙ ap (λ f. own_in f m) e;
          going = λ m. y m ∙ ap (cond (eqb m a) (Some t)) (ok.going m ∙ ap (λ f. goes_in f m) e);
          coming = λ m. z m ∙ ok.coming m ∙ ap (λ f. comes_in f m) e ∙ ap (λ c. cond (eqb m c) (Some a) None) (sym to);
        },
        refl,
      );
    },
  )
    where
      here : at ≡ a
      here = cc (l.is)

      to : t ≡ b
      to = cc (l.is)

      tail : MigratingRest n goal s a b rest
      tail = record { below = l.below; batch = l.batch; others = l.others; some = l.some; ends = l.ends; more = l.more; goes_on = l.goes_on; is = cc (l.is) }

  pub sent : (t at : ℕ) (ok : Marks n goal s own goes comes (planned.Migrating s t at ∷ rest)) → (o : ℕ) × Sent o t at ok.phase
  sent t at ok = by ok.phase refl ok.left
    where
      by : (p : Phase) → ok.phase ≡ p → Rest n goal s p (planned.Migrating s t at ∷ rest) → (o : ℕ) × Sent o t at ok.phase
      by (Closed x) e l = absurd (not_leg x 0 (planned.Migrating s t at) (λ u f. cc) l.goes_on.legs l.goes_on.is)
      by (Importing a b) e (inl l) = sent_opening t at a b ok e l
      by (Importing a b) e (inr l) = cc (l.is)
      by (Migrating a b) e l = cc (l.is)
      by (Drained a b) e l = cc (l.is)
      by (TargetTold a b) e l = cc (l.is)
      by (SourceTold a b []) e l = absurd (l.some refl)
      by (SourceTold a b (m ∷ told)) e l = cc (l.is)

  -- ---- a mark that is taken back

  pub record Stabled (at : ℕ) (before : Phase) : Type 0 where
    pub source : ℕ
    pub was : before ≡ Importing source at
    pub two : AreTwo n source at
    pub slot_below : s < 16384
    pub no_mark : goes at ≡ None
    pub next : ((m : ℕ) → own' m ≡ own m) → ((m : ℕ) → goes' m ≡ cond (eqb m at) None (goes m)) → ((m : ℕ) → comes' m ≡ cond (eqb m at) None (comes m))
        → (new : Marks n goal s own' goes' comes' rest) × (new.phase ≡ Closed source)

  stabled_opening : (at a b : ℕ) (ok : Marks n goal s own goes comes (planned.Stable s at ∷ rest)) → ok.phase ≡ Importing a b → BackRest n goal s a b (planned.Stable s at ∷ rest) → Stabled at ok.phase
  stabled_opening at a b ok e l = record {
    source = a;
    was = e ∙ ap (Importing a) (sym here);
    two = subst (λ x. AreTwo n a x) (sym here) l.two;
    slot_below = l.below;
    no_mark = ok.going at ∙ ap (λ f. goes_in f at) e;
    next = λ x y z. (
      record {
        phase = Closed a;
        left = record { owner_below = l.two.source_below; below = λ f. l.below; goes_on = subst (More n goal s a) (cc (l.is)) l.goes_on };
        owners = λ m h. x m ∙ ok.owners m h ∙ ap (λ f. own_in f m) e;
        going = λ m. y m ∙ ap (cond (eqb m at) None) (ok.going m ∙ ap (λ f. goes_in f m) e) ∙ both_none (eqb m at);
        coming = λ m. z m ∙ ap (cond (eqb m at) None) (ok.coming m ∙ ap (λ f. comes_in f m) e ∙ ap (λ c. cond (eqb m c) (Some a) None) (sym here)) ∙ taken (eqb m at) (Some a);
      },
      refl,
    );
  }
    where
      here : at ≡ b
      here = cc (l.is)

      taken : (b : Bool) (v : Option ℕ) → cond b None (cond b v None) ≡ None
      taken true v = refl
      taken false v = refl

  pub stabled : (at : ℕ) (ok : Marks n goal s own goes comes (planned.Stable s at ∷ rest)) → Stabled at ok.phase
  stabled at ok = by ok.phase refl ok.left
    where
      by : (p : Phase) → ok.phase ≡ p → Rest n goal s p (planned.Stable s at ∷ rest) → Stabled at ok.phase
      by (Closed x) e l = absurd (not_leg x 0 (planned.Stable s at) (λ u f. cc) l.goes_on.legs l.goes_on.is)
      by (Importing a b) e (inl l) = cc (l.is)
      by (Importing a b) e (inr l) = stabled_opening at a b ok e l
      by (Migrating a b) e l = cc (l.is)
      by (Drained a b) e l = cc (l.is)
      by (TargetTold a b) e l = cc (l.is)
      by (SourceTold a b []) e l = absurd (l.some refl)
      by (SourceTold a b (m ∷ told)) e l = cc (l.is)

  -- ---- the drain

  pub record Draining (o t b : ℕ) (before : Phase) : Type 0 where
    pub was : before ≡ Migrating o t
    pub apart : o ≢ t
    pub source_below : o < n
    pub target_below : t < n
    pub some : 0 < b
    pub owned : own o ≡ o
    pub migrates : goes o ≡ Some t
    pub imports : comes t ≡ Some o
    -- a listing with no key
    pub emptied : ((m : ℕ) → own' m ≡ own m) → ((m : ℕ) → goes' m ≡ goes m) → ((m : ℕ) → comes' m ≡ comes m)
        → (new : Marks n goal s own' goes' comes' rest) × (new.phase ≡ Drained o t)

  draining_moving : (o t b a c : ℕ) (ok : Marks n goal s own goes comes (planned.Drain s o t b ∷ rest)) → ok.phase ≡ Migrating a c → MigratingRest n goal s a c (planned.Drain s o t b ∷ rest) → Draining o t b ok.phase
  draining_moving o t b a c ok e' l' = record {
    was = e;
    apart = l.ends.apart;
    source_below = l.ends.source_below;
    target_below = l.ends.target_below;
    some = subst (λ x. 0 < x) (sym batch) l.some;
    owned = ok.owners o l.ends.source_below ∙ ap (λ f. own_in f o) e;
    migrates = ok.going o ∙ ap (λ f. goes_in f o) e ∙ cond-true (eqb o o) (Some t) None (eq-eqb o o refl);
    imports = ok.coming t ∙ ap (λ f. comes_in f t) e ∙ cond-true (eqb t t) (Some o) None (eq-eqb t t refl);
    emptied = λ x y z. (
      record {
        phase = Drained o t;
        left = record { below = l.below; others = l.others; ends = l.ends; more = l.more; goes_on = l.goes_on; is = cc (l.is) };
        owners = λ m h. x m ∙ ok.owners m h ∙ ap (λ f. own_in f m) e;
        going = λ m. y m ∙ ok.going m ∙ ap (λ f. goes_in f m) e;
        coming = λ m. z m ∙ ok.coming m ∙ ap (λ f. comes_in f m) e;
      },
      refl,
    );
  }
    where
      source : a ≡ o
      source = cc (l'.is)

      target : c ≡ t
      target = cc (l'.is)

      e : ok.phase ≡ Migrating o t
      e = subst₂ (λ x y. ok.phase ≡ Migrating x y) source target e'

      l : MigratingRest n goal s o t (planned.Drain s o t b ∷ rest)
      l = subst₂ (λ x y. MigratingRest n goal s x y (planned.Drain s o t b ∷ rest)) source target l'

      batch : b ≡ l.batch
      batch = cc (l.is)

  pub draining : (o t b : ℕ) (ok : Marks n goal s own goes comes (planned.Drain s o t b ∷ rest)) → Draining o t b ok.phase
  draining o t b ok = by ok.phase refl ok.left
    where
      by : (p : Phase) → ok.phase ≡ p → Rest n goal s p (planned.Drain s o t b ∷ rest) → Draining o t b ok.phase
      by (Closed x) e l = absurd (not_leg x 0 (planned.Drain s o t b) (λ u f. cc) l.goes_on.legs l.goes_on.is)
      by (Importing a c) e (inl l) = cc (l.is)
      by (Importing a c) e (inr l) = cc (l.is)
      by (Migrating a c) e l = draining_moving o t b a c ok e l
      by (Drained a c) e l = cc (l.is)
      by (TargetTold a c) e l = cc (l.is)
      by (SourceTold a c []) e l = absurd (l.some refl)
      by (SourceTold a c (m ∷ told)) e l = cc (l.is)

  -- ---- telling the new owner

  pub record Told (t at : ℕ) (before : Phase) : Type 0 where
    pub target_below : t < n
    pub at_below : at < n
    pub slot_below : s < 16384
    pub may : own at ≡ at → t ≢ at → (has : Contents) → Emptied s before has → (k : Key) → slot_of k ≡ s → has at k ≡ None
    pub later : Phase
    pub same_place : (m : ℕ) → may_hold later m ≡ may_hold before m
    pub free : (has : Contents) (ks : List Key) (m : ℕ) → AskFine later has ks m
    pub counted : (ks : List ℕ) (i : ℕ) (h : ℕ → ℕ) → CountOk ks i h before → CountOk ks i h later
    pub fresh : (ks : List ℕ) (i : ℕ) (h : ℕ → ℕ) → Fresh ks i h later
    pub empties : (has : Contents) → Emptied s before has → Emptied s later has
    pub next : ((m : ℕ) → own' m ≡ cond (eqb m at) t (own m)) → ((m : ℕ) → goes' m ≡ cond (eqb m at && not (eqb t at)) None (goes m))
        → ((m : ℕ) → comes' m ≡ cond (eqb m at && eqb t at) None (comes m)) → (new : Marks n goal s own' goes' comes' rest) × (new.phase ≡ later)

  told_drained : (t at a c : ℕ) (ok : Marks n goal s own goes comes (planned.SetNode s t at ∷ rest)) → ok.phase ≡ Drained a c → DrainedRest n goal s a c (planned.SetNode s t at ∷ rest) → Told t at ok.phase
  told_drained t at a c ok e' l = record {
    target_below = ends.target_below;
    at_below = subst (λ x. x < n) (sym here) ends.target_below;
    slot_below = l.below;
    may = λ u v. absurd (v (sym here));
    later = TargetTold a t;
    same_place = λ m. ap (λ f. may_hold f m) (sym e);
    free = λ has ks m. tt;
    counted = λ ks i h u. subst (λ f. CountOk ks i h f) e u;
    fresh = λ ks i h. tt;
    empties = λ has h. subst (λ f. Emptied s f has) e h;
    next = λ x y z. (
      record {
        phase = TargetTold a t;
        left = tail;
        owners = λ m h. x m ∙ (λ i. cond (eqb m (here i)) t ((ok.owners m h ∙ ap (λ f. own_in f m) e) i));
        going = λ m. y m ∙ cond-false _ None (goes m) (and_right (eqb m at) (not (eqb t at)) (ap not (eq-eqb t at (sym here)))) ∙ ok.going m ∙ ap (λ f. goes_in f m) e;
        coming = λ m. z m ∙ gone (eqb m at) (eqb t at) (eqb m t) (comes m) (Some a) (eq-eqb t at (sym here)) (ap (eqb m) here) (ok.coming m ∙ ap (λ f. comes_in f m) e);
      },
      refl,
    );
  }
    where
      to : t ≡ c
      to = cc (l.is)

      here : at ≡ t
      here = cc (l.is)

      e : ok.phase ≡ Drained a t
      e = subst (λ x. ok.phase ≡ Drained a x) (sym to) e'

      ends : AreEnds n a t l.others
      ends = subst (λ x. AreEnds n a x l.others) (sym to) l.ends

      tail : TargetToldRest n goal s a t rest
      tail = subst (λ x. TargetToldRest n goal s a x rest) (sym to) (record { below = l.below; others = l.others; ends = l.ends; more = l.more; goes_on = l.goes_on; is = cc (l.is) })

  told_half : (t at a c : ℕ) (ok : Marks n goal s own goes comes (planned.SetNode s t at ∷ rest)) → ok.phase ≡ TargetTold a c → TargetToldRest n goal s a c (planned.SetNode s t at ∷ rest) → Told t at ok.phase
  told_half t at a c ok e' l = record {
    target_below = ends.target_below;
    at_below = subst (λ x. x < n) (sym here) ends.source_below;
    slot_below = l.below;
    may = λ u v has h k i. ap (λ y. has y k) here ∙ subst (λ f. Emptied s f has) e h k i;
    later = telling a t l.others;
    same_place = λ m. hold_telling a t l.others m ∙ ap (λ f. may_hold f m) (sym e);
    free = λ has ks m. free_telling a t l.others has ks m;
    counted = λ ks i h u. counted_telling a t l.others ks i h (subst (λ f. CountOk ks i h f) e u);
    fresh = λ ks i h. fresh_telling a t l.others ks i h;
    empties = λ has h. empties_telling s a t l.others has;
    next = λ x y z. (
      record {
        phase = telling a t l.others;
        left = rest_telling n goal s a t l.others rest l.more l.below (two_of n a t l.others ends) (record { each_other = ends.each_other; distinct = ends.distinct }) (subst (λ x. More n goal s x l.more) (sym to) l.goes_on) tail;
        owners = λ m h. x m ∙ (λ i. cond (eqb m (here i)) t ((ok.owners m h ∙ ap (λ f. own_in f m) e) i)) ∙ half_owner m h ∙ sym (own_telling a t l.others m);
        going = λ m. y m ∙ gone (eqb m at) (not (eqb t at)) (eqb m a) (goes m) (Some t) (ap not (ne_eqb t at (λ j. ends.apart (sym here ∙ sym j)))) (ap (eqb m) here) (ok.going m ∙ ap (λ f. goes_in f m) e) ∙ sym (goes_telling a t l.others m);
        coming = λ m. z m ∙ ap (cond (eqb m at && eqb t at) None) (ok.coming m ∙ ap (λ f. comes_in f m) e) ∙ both_none (eqb m at && eqb t at) ∙ sym (comes_telling a t l.others m);
      },
      refl,
    );
  }
    where
      to : t ≡ c
      to = cc (l.is)

      here : at ≡ a
      here = cc (l.is)

      e : ok.phase ≡ TargetTold a t
      e = subst (λ x. ok.phase ≡ TargetTold a x) (sym to) e'

      ends : AreEnds n a t l.others
      ends = subst (λ x. AreEnds n a x l.others) (sym to) l.ends

      tail : rest ≡ tell s t l.others ++ l.more
      tail = subst (λ x. rest ≡ tell s x l.others ++ l.more) (sym to) (cc (l.is))

      half_owner : (m : ℕ) → m < n → cond (eqb m a) t (cond (eqb m t) t a) ≡ cond (among m l.others) a t
      half_owner m h = elim (cases_eq m a) [
        | inl u ↦ cond-true _ _ _ (eq-eqb m a u) ∙ sym (cond-false _ a t (not_among n a t l.others m ends.each_other (inl u)))
        | inr u ↦ cond-false _ _ _ (ne_eqb m a u) ∙ elim (cases_eq m t) [
          | inl v ↦ cond-true _ _ _ (eq-eqb m t v) ∙ sym (cond-false _ a t (not_among n a t l.others m ends.each_other (inr v)))
          | inr v ↦ cond-false _ _ _ (ne_eqb m t v) ∙ sym (cond-true _ a t (ends.every m h u v))
        ]
      ]

  told_telling : (t at a c m : ℕ) (left : List ℕ) (ok : Marks n goal s own goes comes (planned.SetNode s t at ∷ rest)) → ok.phase ≡ SourceTold a c (m ∷ left) → SourceToldRest n goal s a c (m ∷ left) (planned.SetNode s t at ∷ rest) → Told t at ok.phase
  told_telling t at a c m left ok e' l = record {
    target_below = subst (λ x. x < n) (sym to) l.two.target_below;
    at_below = subst (λ x. x < n) (sym here) l.others.each_other.0.0;
    slot_below = l.below;
    may = λ u v. absurd (l.others.each_other.0.1 (sym here ∙ sym u ∙ ok.owners at (subst (λ x. x < n) (sym here) l.others.each_other.0.0) ∙ ap (λ f. own_in f at) e ∙ cond-true (among at (m ∷ left)) a t (or_left (eqb at m) (among at left) (eq-eqb at m here))));
    later = telling a t left;
    same_place = λ j. hold_telling a t left j ∙ ap (λ f. may_hold f j) (sym e);
    free = λ has ks m. free_telling a t left has ks m;
    counted = λ ks i h u. counted_telling a t left ks i h (subst (λ f. CountOk ks i h f) e u);
    fresh = λ ks i h. fresh_telling a t left ks i h;
    empties = λ has h. empties_telling s a t left has;
    next = λ x y z. (
      record {
        phase = telling a t left;
        left = rest_telling n goal s a t left rest l.more l.below (subst (λ x. AreTwo n a x) (sym to) l.two) (subst (λ x. AreOthers n a x left) (sym to) (record { each_other = l.others.each_other.1; distinct = l.others.distinct.1 })) (subst (λ x. More n goal s x l.more) (sym to) l.goes_on) tail;
        owners = λ j h. x j ∙ (λ i. cond (eqb j (here i)) t ((ok.owners j h ∙ ap (λ f. own_in f j) e) i)) ∙ told_owner j ∙ sym (own_telling a t left j);
        going = λ j. y j ∙ ap (cond (eqb j at && not (eqb t at)) None) (ok.going j ∙ ap (λ f. goes_in f j) e) ∙ both_none (eqb j at && not (eqb t at)) ∙ sym (goes_telling a t left j);
        coming = λ j. z j ∙ ap (cond (eqb j at && eqb t at) None) (ok.coming j ∙ ap (λ f. comes_in f j) e) ∙ both_none (eqb j at && eqb t at) ∙ sym (comes_telling a t left j);
      },
      refl,
    );
  }
    where
      to : t ≡ c
      to = cc (l.is)

      here : at ≡ m
      here = cc (l.is)

      e : ok.phase ≡ SourceTold a t (m ∷ left)
      e = subst (λ x. ok.phase ≡ SourceTold a x (m ∷ left)) (sym to) e'

      tail : rest ≡ tell s t left ++ l.more
      tail = subst (λ x. rest ≡ tell s x left ++ l.more) (sym to) (cc (l.is))

      told_owner : (j : ℕ) → cond (eqb j m) t (cond (eqb j m || among j left) a t) ≡ cond (among j left) a t
      told_owner j = elim (cases_eq j m) [
        | inl u ↦ cond-true _ _ _ (eq-eqb j m u) ∙ sym (cond-false _ a t (ap (λ y. among y left) u ∙ l.others.distinct.0))
        | inr u ↦ cond-false _ _ _ (ne_eqb j m u) ∙ ap (λ b. cond (b || among j left) a t) (ne_eqb j m u)
      ]

  pub told : (t at : ℕ) (ok : Marks n goal s own goes comes (planned.SetNode s t at ∷ rest)) → Told t at ok.phase
  told t at ok = by ok.phase refl ok.left
    where
      by : (p : Phase) → ok.phase ≡ p → Rest n goal s p (planned.SetNode s t at ∷ rest) → Told t at ok.phase
      by (Closed x) e l = absurd (not_leg x 0 (planned.SetNode s t at) (λ u f. cc) l.goes_on.legs l.goes_on.is)
      by (Importing a c) e (inl l) = cc (l.is)
      by (Importing a c) e (inr l) = cc (l.is)
      by (Migrating a c) e l = cc (l.is)
      by (Drained a c) e l = told_drained t at a c ok e l
      by (TargetTold a c) e l = told_half t at a c ok e l
      by (SourceTold a c []) e l = absurd (l.some refl)
      by (SourceTold a c (m ∷ left)) e l = told_telling t at a c m left ok e l
