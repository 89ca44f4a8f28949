-- A slot's commands are taken to their end from its phase exactly where they are a legal part.
use Rattle.std.proofs.Common.{◌≡◌, ◌≢◌, ◌⊎◌, ℕ, ◌<◌, ◌≤◌, Bool, true, false, not, ◌||◌, eqb, List, [], ◌∷◌, ◌++◌, length, sym, refl, ap, ◌∙◌, subst, arith, inl, inr, get_or}
use Rattle.std.proofs.lemmas.Bool.{true≢false, eq-eqb, or_left, cond-false}
use Rattle.std.specs.List.{AllByRecursion}
use Rattle.plan_language.specs.Lines.{HasBatch, FitsVersion}
use Rattle.plan_language.specs.declared.line.Line.TheVariants.{Command}
use Rattle.plan_language.specs.declared.plan_command.PlanCommand.{PlanCommand}
use Rattle.plan_language.specs.declared.plan_command.PlanCommand.TheVariants as planned
use Rattle.cluster_admin.specs.Phases.{Phase, AreTwo, IsPhase}
use Rattle.cluster_admin.specs.Phases as phase
use Rattle.plan_semantics.specs.Plans.{slot_named, among, tell, Leg, legs_of, AreLegs, Closes, KeepsVersion, IsPart}
use Rattle.plan_runner.specs.declared.slot_state.SlotState.TheVariants as state
use Rattle.plan_runner.specs.SlotStates.{moved_to, all_told, told_so_far, told_but, first_state}
use Rattle.plan_semantics.proofs.OnePhase.{all_among}
use Rattle.plan_runner.proofs.OneSlot.{Left, Telling, IsFine, Ends, EndsWell, ends, ends_of, all_told_each}
use Rattle.plan_runner.proofs.ToldBut.{is_left, not_left, not_told, told_but_is, told_width}
use Rattle.plan_runner.proofs.Accepting.{tells_on, target_on, migrating_on, importing_on, back_on, along, later_end}
use Rattle.plan_runner.proofs.Accepting.{legs_end}

-- ---- the nodes that a phase has left

among_all : (P : ℕ → Type 0) (ns : List ℕ) → ((m : ℕ) → among m ns ≡ true → P m) → AllByRecursion P ns
among_all P [] h = tt
among_all P (x ∷ ns) h = (h x (or_left (eqb x x) (among x ns) (eq-eqb x x refl)), among_all P ns (λ m e. h m (second (eqb m x) (among m ns) e)))
  where
    second : (a b : Bool) → b ≡ true → (a || b) ≡ true
    second true b e = refl
    second false b e = e

module _ (v n s : ℕ) (fits : n ≤ 255) where
  fine_first : (p : Phase) → IsPhase n p → IsFine v n s (first_state n p)
  fine_first (phase.Closed o) fine = tt
  fine_first (phase.Importing a z) fine = fine
  fine_first (phase.Migrating a z) fine = fine
  fine_first (phase.TargetTold a z) fine = fine
  fine_first (phase.SourceTold a z left) fine = subst (λ w. n ≤ w) (sym (told_width n left)) fits

  -- the nodes that are told are those that were left
  same_left : (a z : ℕ) (left : List ℕ) (os : List PlanCommand) → AllByRecursion (λ m. (m < n) × (m ≢ a) × (m ≢ z)) left → (t : Telling v n s z (told_but n left) os)
      → (m : ℕ) → among m t.others ≡ among m left
  same_left a z left os below t m = by (among m t.others) (among m left) refl refl
    where
      by : (c d : Bool) → among m t.others ≡ c → among m left ≡ d → among m t.others ≡ among m left
      by true true e f = e ∙ sym f
      by false false e f = e ∙ sym f
      by true false e f = let p = all_among (Left n (told_but n left)) t.others t.each m e in
          absurd (true≢false (sym (is_left n left m fits p.0 p.1) ∙ f))
      by false true e f = let p = all_among (λ q. (q < n) × (q ≢ a) × (q ≢ z)) left below m f in
          elim (t.every m p.0) [
            | inl u ↦ absurd (true≢false (sym f ∙ not_left n left m fits p.0 u))
            | inr u ↦ absurd (true≢false (sym u ∙ e))
          ]

  pub part_is : (p : Phase) (os : List PlanCommand) → IsPhase n p → AllByRecursion (λ o. slot_named o ≡ s) os → AllByRecursion HasBatch os
      → AllByRecursion (λ o. FitsVersion v (Command o)) os → (os ≢ [] → s < 16384) → EndsWell v n (first_state n p) os → IsPart v n s p os
  part_is p os fine names some fit below e = by p fine (ends v n s os (first_state n p) fits (fine_first p fine) names some fit e)
    where
      other : v ≡ 1 → v ≡ 3 → ⊥
      other i j = omega arith

      by : (p : Phase) → IsPhase n p → Ends v n s (first_state n p) os → IsPart v n s p os
      by (phase.Closed o) fine f = record { closing = []; owner = o; closes = (refl, refl); legs = f.legs; are = f.are; keeps = f.keeps; is = f.is; below = below }
      by (phase.Importing a z) fine (inl r) = record {
        closing = planned.Stable s z ∷ [];
        owner = a;
        closes = inl (r.0, refl, refl);
        legs = r.3.legs;
        are = r.3.are;
        keeps = λ i. absurd (other i r.0);
        is = r.2 ∙ ap (λ x. planned.Stable s z ∷ x) r.3.is;
        below = below;
      }
      by (phase.Importing a z) fine (inr r) = let t = r.2.telling in record {
        closing = planned.Migrating s z a ∷ planned.Drain s a z r.0 ∷ planned.SetNode s z z ∷ planned.SetNode s z a ∷ tell s z t.others;
        owner = z;
        closes = inr (r.0, t.others, r.1, ends_of v n s a z r.2.rest fits fine t, refl, refl);
        legs = t.later.legs;
        are = t.later.are;
        keeps = t.later.keeps;
        is = r.2.is ∙ ap (λ x. planned.Migrating s z a ∷ planned.Drain s a z r.0 ∷ planned.SetNode s z z ∷ planned.SetNode s z a ∷ x) (t.is ∙ ap (λ x. tell s z t.others ++ x) t.later.is);
        below = below;
      }
      by (phase.Migrating a z) fine r = let t = r.2.telling in record {
        closing = planned.Drain s a z r.0 ∷ planned.SetNode s z z ∷ planned.SetNode s z a ∷ tell s z t.others;
        owner = z;
        closes = (r.0, t.others, r.1, ends_of v n s a z r.2.rest fits fine t, refl, refl);
        legs = t.later.legs;
        are = t.later.are;
        keeps = t.later.keeps;
        is = r.2.is ∙ ap (λ x. planned.Drain s a z r.0 ∷ planned.SetNode s z z ∷ planned.SetNode s z a ∷ x) (t.is ∙ ap (λ x. tell s z t.others ++ x) t.later.is);
        below = below;
      }
      by (phase.TargetTold a z) fine r = let t = r.telling in record {
        closing = planned.SetNode s z a ∷ tell s z t.others;
        owner = z;
        closes = (t.others, ends_of v n s a z r.rest fits fine t, refl, refl);
        legs = t.later.legs;
        are = t.later.are;
        keeps = t.later.keeps;
        is = r.is ∙ ap (λ x. planned.SetNode s z a ∷ x) (t.is ∙ ap (λ x. tell s z t.others ++ x) t.later.is);
        below = below;
      }
      by (phase.SourceTold a z left) fine t = record {
        closing = tell s z t.others;
        owner = z;
        closes = (t.others, t.distinct, same_left a z left os fine.1.each_other t, refl, refl);
        legs = t.later.legs;
        are = t.later.are;
        keeps = t.later.keeps;
        is = t.is ∙ ap (λ x. tell s z t.others ++ x) t.later.is;
        below = below;
      }

  -- ---- the other way round

  some_left : (a z : ℕ) (left : List ℕ) → AllByRecursion (λ m. (m < n) × (m ≢ a) × (m ≢ z)) left → left ≢ [] → state.SourceTold a z (told_but n left) ≡ told_so_far v n a z (told_but n left)
  some_left a z [] below some = absurd (some refl)
  some_left a z (x ∷ left) below some = sym (cond-false (all_told n (told_but n (x ∷ left))) (moved_to v z) (state.SourceTold a z (told_but n (x ∷ left))) (by (all_told n (told_but n (x ∷ left))) refl))
    where
      here : get_or (told_but n (x ∷ left)) x false ≡ false
      here = not_told n (x ∷ left) x fits below.0.0 (or_left (eqb x x) (among x left) (eq-eqb x x refl))

      by : (b : Bool) → all_told n (told_but n (x ∷ left)) ≡ b → b ≡ false
      by true e = absurd (true≢false (sym (all_told_each n (told_but n (x ∷ left)) e x below.0.0) ∙ here))
      by false e = refl

  same_told : (a z : ℕ) (left others : List ℕ) → AllByRecursion (λ m. (m < n) × (m ≢ a) × (m ≢ z)) left → ((m : ℕ) → among m others ≡ among m left) → AllByRecursion (Left n (told_but n left)) others
  same_told a z left others below same = among_all (Left n (told_but n left)) others (λ m e.
      let f : among m left ≡ true = sym (same m) ∙ e in
      let p = all_among (λ q. (q < n) × (q ≢ a) × (q ≢ z)) left below m f in
      (p.0, not_told n left m fits p.0 f))

  every_told : (left others : List ℕ) → ((m : ℕ) → among m others ≡ among m left) → (m : ℕ) → m < n → (get_or (told_but n left) m false ≡ true) ⊎ (among m others ≡ true)
  every_told left others same m h = by (among m others) refl
    where
      by : (b : Bool) → among m others ≡ b → (get_or (told_but n left) m false ≡ true) ⊎ (b ≡ true)
      by true e = inr refl
      by false e = inl (told_but_is n left m fits h ∙ ap not (sym (same m) ∙ e))

  pub part_ends : (p : Phase) (os : List PlanCommand) → IsPhase n p → IsPart v n s p os → EndsWell v n (first_state n p) os
  part_ends p os fine i = subst (EndsWell v n (first_state n p)) (sym i.is) (by p i.closing i.owner fine i.closes i.are i.keeps)
    where
      legs : List Leg
      legs = i.legs

      other : v ≡ 1 → v ≡ 3 → ⊥
      other i j = omega arith

      free : (w : ℕ) → AreLegs v n w i.legs → (v ≡ 1 → length i.legs ≤ 1) → EndsWell v n (state.Untouched w) (legs_of s w i.legs)
      free w are keeps = legs_end v n s w i.legs fits are keeps

      later : (w : ℕ) → AreLegs v n w i.legs → (v ≡ 1 → i.legs ≡ []) → EndsWell v n (moved_to v w) (legs_of s w i.legs)
      later w are keeps = later_end v n s w i.legs keeps (λ o. free w are (λ j. absurd (o j)))

      by : (p : Phase) (closing : List PlanCommand) (w : ℕ) → IsPhase n p → Closes v n s p closing w → AreLegs v n w i.legs → KeepsVersion v p i.legs
          → EndsWell v n (first_state n p) (closing ++ legs_of s w i.legs)
      by (phase.Closed o) closing w fine c are keeps = subst (λ x. EndsWell v n (state.Untouched o) (x ++ legs_of s w i.legs)) (sym c.0)
          (subst (λ x. EndsWell v n (state.Untouched x) (legs_of s w i.legs)) c.1 (free w are keeps))
      by (phase.Importing a z) closing w fine (inl c) are keeps = subst (λ x. EndsWell v n (state.Importing a z) (x ++ legs_of s w i.legs)) (sym c.1)
          (along v n (state.Importing a z) (state.Untouched a) (planned.Stable s z ∷ legs_of s w i.legs) (legs_of s w i.legs) (back_on v n s a z (legs_of s w i.legs) fine)
          (subst (λ x. EndsWell v n (state.Untouched x) (legs_of s w i.legs)) c.2 (free w are (λ j. absurd (other j c.0)))))
      by (phase.Importing a z) closing w fine (inr c) are keeps = subst (λ x. EndsWell v n (state.Importing a z) (x ++ legs_of s w i.legs)) (sym c.5)
          (along v n (state.Importing a z) (moved_to v z) (planned.Migrating s z a ∷ planned.Drain s a z c.0 ∷ planned.SetNode s z z ∷ planned.SetNode s z a ∷ (tell s z c.1 ++ legs_of s w i.legs)) (legs_of s w i.legs) (importing_on v n s a z c.1 (legs_of s w i.legs) fits c.3 c.0)
          (subst (λ x. EndsWell v n (moved_to v x) (legs_of s w i.legs)) c.4 (later w are keeps)))
      by (phase.Migrating a z) closing w fine c are keeps = subst (λ x. EndsWell v n (state.Migrating a z) (x ++ legs_of s w i.legs)) (sym c.5)
          (along v n (state.Migrating a z) (moved_to v z) (planned.Drain s a z c.0 ∷ planned.SetNode s z z ∷ planned.SetNode s z a ∷ (tell s z c.1 ++ legs_of s w i.legs)) (legs_of s w i.legs) (migrating_on v n s a z c.1 (legs_of s w i.legs) fits c.3 c.0)
          (subst (λ x. EndsWell v n (moved_to v x) (legs_of s w i.legs)) c.4 (later w are keeps)))
      by (phase.TargetTold a z) closing w fine c are keeps = subst (λ x. EndsWell v n (state.TargetTold a z) (x ++ legs_of s w i.legs)) (sym c.3)
          (along v n (state.TargetTold a z) (moved_to v z) (planned.SetNode s z a ∷ (tell s z c.0 ++ legs_of s w i.legs)) (legs_of s w i.legs) (target_on v n s a z c.0 (legs_of s w i.legs) fits c.1)
          (subst (λ x. EndsWell v n (moved_to v x) (legs_of s w i.legs)) c.2 (later w are keeps)))
      by (phase.SourceTold a z left) closing w fine c are keeps = subst (λ x. EndsWell v n (state.SourceTold a z (told_but n left)) (x ++ legs_of s w i.legs)) (sym c.4)
          (subst (λ q. EndsWell v n q (tell s z c.0 ++ legs_of s w i.legs)) (sym (some_left a z left fine.1.each_other fine.2))
          (along v n (told_so_far v n a z (told_but n left)) (moved_to v z) (tell s z c.0 ++ legs_of s w i.legs) (legs_of s w i.legs)
          (tells_on v n s a z c.0 (told_but n left) (legs_of s w i.legs) fine.0.target_below (subst (λ w. n ≤ w) (sym (told_width n left)) fits) c.1 (same_told a z left c.0 fine.1.each_other c.2) (every_told left c.0 c.2))
          (subst (λ x. EndsWell v n (moved_to v x) (legs_of s w i.legs)) c.3 (later w are keeps))))
