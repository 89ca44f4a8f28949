-- The phases of slots after the first commands of a legal plan.
use Rattle.std.proofs.Common.{◌≡◌, ◌≢◌, ◌⊎◌, ℕ, ◌+◌, ◌-◌, true, not, eqb, List, [], ◌∷◌, ◌++◌, fold, length, take, drop}
use Rattle.std.proofs.Common.{take-append-drop, append-nil, sym, refl, ap, ◌∙◌, subst, arith, inl, inr}
use Rattle.std.specs.Prelude.{slice_index}
use Rattle.std.proofs.lemmas.Bool.{true≢false, eq-eqb, ne_eqb, or_left}
use Rattle.std.proofs.lemmas.List.Elements.{filter-append}
use Rattle.cluster_admin.specs.Phases.{closed_by, Phase, IsDistinct, among}
use Rattle.cluster_admin.specs.Phases as phase
use Rattle.plan_language.specs.Lines.{others}
use Rattle.plan_language.specs.declared.plan_command.PlanCommand.{PlanCommand}
use Rattle.plan_language.specs.declared.plan_command.PlanCommand.TheVariants as planned
use Rattle.plan_semantics.specs.Plans.{AreEnds, AreLegs, IsPart, Legal, Leg, first_owner, last_told, legs_of, part}
use Rattle.plan_semantics.specs.Plans.{slot_named, tell}
use Rattle.plan_semantics.specs.Plans as leg
use Rattle.plan_semantics.proofs.Others.{others_ends}
use Rattle.plan_changes.specs.Opening.{LegalPlansClose, is_open, left_after, phase_after, phase_behind, told_but}
use Rattle.plan_changes.proofs.DistinctNodes.{ends_count, ends_same, same_without, without}

first_is : (x y : PlanCommand) (xs ys : List PlanCommand) → x ∷ xs ≡ y ∷ ys → x ≡ y
first_is x y xs ys e = cc

rest_is : (x y : PlanCommand) (xs ys : List PlanCommand) → x ∷ xs ≡ y ∷ ys → xs ≡ ys
rest_is x y xs ys e = cc

none_is : (x : PlanCommand) (xs : List PlanCommand) → x ∷ xs ≡ [] → ⊥
none_is x xs e = cc

module _ (v n s : ℕ) where
  -- a move to the target that is under way, and what follows it
  record Moving (o t : ℕ) : Type 0 where
    batch : ℕ
    others : List ℕ
    ends : AreEnds n o t others
    legs : List Leg
    are : AreLegs v n t legs

  abbrev last_told_of : (o t : ℕ) → Moving o t → List PlanCommand
  last_told_of o t m = tell s t m.others ++ legs_of s t m.legs

  abbrev target_first : (o t : ℕ) → Moving o t → List PlanCommand
  target_first o t m = planned.SetNode s t t ∷ planned.SetNode s t o ∷ last_told_of o t m

  -- in this phase, with so many commands of the leg left, these commands follow
  abbrev Rest : Phase → ℕ → List PlanCommand → Type 0
  Rest (phase.Closed o) k cs = (k ≡ 0) × (legs : List Leg) × AreLegs v n o legs × (cs ≡ legs_of s o legs)
  Rest (phase.Importing o t) k cs =
      (k ≡ n + 2)
      × (((legs : List Leg) × AreLegs v n o legs × (cs ≡ planned.Stable s t ∷ legs_of s o legs))
      ⊎ ((m : Moving o t) × (cs ≡ planned.Migrating s t o ∷ planned.Drain s o t m.batch ∷ target_first o t m)))
  Rest (phase.Migrating o t) k cs =
      (m : Moving o t)
      × (((k ≡ n + 1) × (cs ≡ planned.Drain s o t m.batch ∷ target_first o t m))
      ⊎ ((k ≡ n) × (cs ≡ target_first o t m)))
  Rest (phase.TargetTold o t) k cs =
      (m : Moving o t) × (k + 1 ≡ n) × (cs ≡ planned.SetNode s t o ∷ last_told_of o t m)
  Rest (phase.SourceTold o t left) k cs =
      (told : List ℕ) × (legs : List Leg) × (k ≡ length told) × (told ≢ []) × IsDistinct told
      × ((m : ℕ) → among m told ≡ among m left) × AreLegs v n t legs
      × (cs ≡ tell s t told ++ legs_of s t legs)

  -- the source and the others before these were told
  telling : (o t : ℕ) (left told : List ℕ) (legs : List Leg) (k : ℕ) (cs : List PlanCommand) → k ≡ length told
      → IsDistinct told → ((m : ℕ) → among m told ≡ among m left) → AreLegs v n t legs
      → cs ≡ tell s t told ++ legs_of s t legs → Rest (told_but o t left) k cs
  telling o t [] [] legs k cs count d same are is = (count, legs, are, is)
  telling o t [] (x ∷ told) legs k cs count d same are is =
      absurd (true≢false (sym (or_left (eqb x x) (among x told) (eq-eqb x x refl)) ∙ same x))
  telling o t (x ∷ left) [] legs k cs count d same are is =
      absurd (true≢false (sym (same x ∙ or_left (eqb x x) (among x left) (eq-eqb x x refl))))
  telling o t (x ∷ left) (y ∷ told) legs k cs count d same are is =
      (y ∷ told, legs, count, some, d, same, are, is)
    where
      some : y ∷ told ≢ []
      some e = cc

  abbrev Next : Phase → ℕ → List PlanCommand → PlanCommand → Type 0
  Next p k cs c = Rest (phase_after n p c) (left_after n k c) cs

  step : (p : Phase) (k : ℕ) (c : PlanCommand) (cs : List PlanCommand) → Rest p k (c ∷ cs) → Next p k cs c
  step (phase.Closed o) k c cs (z, legs, are, is) = by legs are is
    where
      by : (legs : List Leg) → AreLegs v n o legs → c ∷ cs ≡ legs_of s o legs → Next (phase.Closed o) k cs c
      by [] are is = absurd (none_is c cs is)
      by (leg.Try t ∷ legs) are is =
          subst (Next (phase.Closed o) k cs) (sym (first_is c _ cs _ is))
          (refl, inl (legs, are.2, rest_is c _ cs _ is))
      by (leg.Move t b ns ∷ legs) are is =
          subst (Next (phase.Closed o) k cs) (sym (first_is c _ cs _ is))
          (refl, inr (record { batch = b; others = ns; ends = are.1; legs = legs; are = are.2 }, rest_is c _ cs _ is))
  step (phase.Importing o t) k c cs (e, inl (legs, are, is)) =
      subst (Next (phase.Importing o t) k cs) (sym (first_is c _ cs _ is)) (refl, legs, are, rest_is c _ cs _ is)
  step (phase.Importing o t) k c cs (e, inr (m, is)) =
      subst (Next (phase.Importing o t) k cs) (sym (first_is c _ cs _ is)) (m, inl (omega arith, rest_is c _ cs _ is))
  step (phase.Migrating o t) k c cs (m, inl (e, is)) =
      subst (Next (phase.Migrating o t) k cs) (sym (first_is c _ cs _ is)) (m, inr (omega arith, rest_is c _ cs _ is))
  step (phase.Migrating o t) k c cs (m, inr (e, is)) =
      let all = ends_count n o t m.others m.ends in
      subst (Next (phase.Migrating o t) k cs) (sym (first_is c _ cs _ is)) (m, omega arith, rest_is c _ cs _ is)
  step (phase.TargetTold o t) k c cs (m, e, is) =
      let all = ends_count n o t m.others m.ends in
      let few : k - 1 ≡ length m.others = omega (arith, all, e) in
      subst (Next (phase.TargetTold o t) k cs) (sym (first_is c _ cs _ is))
      (telling o t (others n o t) m.others m.legs (k - 1) cs few m.ends.distinct
      (ends_same n o t m.others (others n o t) m.ends
      (others_ends n o t m.ends.apart m.ends.source_below m.ends.target_below))
      m.are (rest_is c _ cs _ is))
  step (phase.SourceTold o t left) k c cs (told, legs, e, some, d, same, are, is) = by told e some d same is
    where
      by : (told : List ℕ) → k ≡ length told → told ≢ [] → IsDistinct told → ((m : ℕ) → among m told ≡ among m left)
          → c ∷ cs ≡ tell s t told ++ legs_of s t legs → Next (phase.SourceTold o t left) k cs c
      by [] e some d same is = absurd (some refl)
      by (a ∷ told) e some d same is =
          subst (Next (phase.SourceTold o t left) k cs) (sym (first_is c _ cs _ is))
          (telling o t (without a left) told legs (k - 1) cs (omega arith) d.1 (same_without a told left d same) are
          (rest_is c _ cs _ is))

  steps : (xs ys : List PlanCommand) (p : Phase) (k : ℕ) → Rest p k (xs ++ ys)
      → Rest (fold (phase_after n) p xs) (fold (left_after n) k xs) ys
  steps [] ys p k h = h
  steps (x ∷ xs) ys p k h = steps xs ys (phase_after n p x) (left_after n k x) (step p k x (xs ++ ys) h)

  -- commands are left exactly in the open phases
  open_is : (p : Phase) (k : ℕ) (cs : List PlanCommand) → Rest p k cs → is_open p ≡ not (eqb k 0)
  open_is (phase.Closed o) k cs h = sym (ap not (eq-eqb k 0 h.0))
  open_is (phase.Importing o t) k cs h = sym (ap not (ne_eqb k 0 (λ e. more e h.0)))
    where
      more : k ≡ 0 → k ≡ n + 2 → ⊥
      more e is = omega arith
  open_is (phase.Migrating o t) k cs (m, inl (is, after)) = sym (ap not (ne_eqb k 0 (λ e. more e)))
    where
      more : k ≡ 0 → ⊥
      more e = omega (arith, e, is)
  open_is (phase.Migrating o t) k cs (m, inr (is, after)) = sym (ap not (ne_eqb k 0 (λ e. more e)))
    where
      all : length m.others + 2 ≡ n
      all = ends_count n o t m.others m.ends

      more : k ≡ 0 → ⊥
      more e = omega (arith, e, is, all)
  open_is (phase.TargetTold o t) k cs h = sym (ap not (ne_eqb k 0 (λ e. more e h.1)))
    where
      all : length h.0.others + 2 ≡ n
      all = ends_count n o t h.0.others h.0.ends

      more : k ≡ 0 → k + 1 ≡ n → ⊥
      more e is = omega (arith, e, is, all)
  open_is (phase.SourceTold o t left) k cs (told, legs, e, some, d, same, are, is) = by told e some
    where
      by : (told : List ℕ) → k ≡ length told → told ≢ [] → true ≡ not (eqb k 0)
      by [] e some = absurd (some refl)
      by (a ∷ told) e some = sym (ap not (ne_eqb k 0 (λ q. more q)))
        where
          more : k ≡ 0 → ⊥
          more q = omega (arith, q, e)

  -- ---- the owner in the end stays the same

  told_owner : (o t : ℕ) (left : List ℕ) → first_owner (told_but o t left) ≡ t
  told_owner o t [] = refl
  told_owner o t (m ∷ left) = refl

  abbrev Leads : Phase → List PlanCommand → PlanCommand → Type 0
  Leads p cs c = last_told (first_owner (phase_after n p c)) cs ≡ last_told (first_owner p) (c ∷ cs)

  leads : (p : Phase) (k : ℕ) (c : PlanCommand) (cs : List PlanCommand) → Rest p k (c ∷ cs) → Leads p cs c
  leads (phase.Closed o) k c cs (z, legs, are, is) = by legs is
    where
      by : (legs : List Leg) → c ∷ cs ≡ legs_of s o legs → Leads (phase.Closed o) cs c
      by [] is = absurd (none_is c cs is)
      by (leg.Try t ∷ legs) is = subst (Leads (phase.Closed o) cs) (sym (first_is c _ cs _ is)) refl
      by (leg.Move t b ns ∷ legs) is = subst (Leads (phase.Closed o) cs) (sym (first_is c _ cs _ is)) refl
  leads (phase.Importing o t) k c cs (e, inl (legs, are, is)) =
      subst (Leads (phase.Importing o t) cs) (sym (first_is c _ cs _ is)) refl
  leads (phase.Importing o t) k c cs (e, inr (m, is)) =
      subst (Leads (phase.Importing o t) cs) (sym (first_is c _ cs _ is))
      (ap (last_told t) (rest_is c _ cs _ is) ∙ sym (ap (last_told o) (rest_is c _ cs _ is)))
  leads (phase.Migrating o t) k c cs (m, inl (e, is)) =
      subst (Leads (phase.Migrating o t) cs) (sym (first_is c _ cs _ is)) refl
  leads (phase.Migrating o t) k c cs (m, inr (e, is)) =
      subst (Leads (phase.Migrating o t) cs) (sym (first_is c _ cs _ is)) refl
  leads (phase.TargetTold o t) k c cs (m, e, is) =
      subst (Leads (phase.TargetTold o t) cs) (sym (first_is c _ cs _ is))
      (ap (λ w. last_told w cs) (told_owner o t (others n o t)))
  leads (phase.SourceTold o t left) k c cs (told, legs, e, some, d, same, are, is) = by told some is
    where
      by : (told : List ℕ) → told ≢ [] → c ∷ cs ≡ tell s t told ++ legs_of s t legs
          → Leads (phase.SourceTold o t left) cs c
      by [] some is = absurd (some refl)
      by (a ∷ told) some is =
          subst (Leads (phase.SourceTold o t left) cs) (sym (first_is c _ cs _ is))
          (ap (λ w. last_told w cs) (told_owner o t (without a left)))

  all_lead : (xs : List PlanCommand) (p : Phase) (k : ℕ) → Rest p k xs
      → first_owner (fold (phase_after n) p xs) ≡ last_told (first_owner p) xs
  all_lead [] p k h = refl
  all_lead (x ∷ xs) p k h =
      all_lead xs (phase_after n p x) (left_after n k x) (step p k x xs h) ∙ leads p k x xs h

  -- where nothing follows the slot is closed
  at_end : (p : Phase) (k : ℕ) → Rest p k [] → p ≡ phase.Closed (first_owner p)
  at_end (phase.Closed o) k h = refl
  at_end (phase.Importing o t) k (e, inl (legs, are, is)) = absurd (none_is _ _ (sym is))
  at_end (phase.Importing o t) k (e, inr (m, is)) = absurd (none_is _ _ (sym is))
  at_end (phase.Migrating o t) k (m, inl (e, is)) = absurd (none_is _ _ (sym is))
  at_end (phase.Migrating o t) k (m, inr (e, is)) = absurd (none_is _ _ (sym is))
  at_end (phase.TargetTold o t) k (m, e, is) = absurd (none_is _ _ (sym is))
  at_end (phase.SourceTold o t left) k (told, legs, e, some, d, same, are, is) = absurd (by told some is)
    where
      by : (told : List ℕ) → told ≢ [] → [] ≡ tell s t told ++ legs_of s t legs → ⊥
      by [] some is = some refl
      by (a ∷ told) some is = none_is _ _ (sym is)

  at_first : (o : ℕ) (cs : List PlanCommand) → IsPart v n s (phase.Closed o) cs → Rest (phase.Closed o) 0 cs
  at_first o cs p = (
    refl,
    p.legs,
    subst (λ w. AreLegs v n w p.legs) p.closes.1 p.are,
    p.is ∙ ap (λ l. l ++ legs_of s p.owner p.legs) p.closes.0 ∙ ap (λ w. legs_of s w p.legs) p.closes.1,
  )

part_append : (xs ys : List PlanCommand) (s : ℕ) → part (xs ++ ys) s ≡ part xs s ++ part ys s
part_append xs ys s = filter-append (λ c. eqb (slot_named c) s) xs ys

module _ (v n : ℕ) (plan : List PlanCommand) (owners : List ℕ) (legal : Legal v plan (closed_by owners) n) where
  first_rest : (s : ℕ) → Rest v n s (closed_by owners s) 0 (part plan s)
  first_rest s = at_first v n s (slice_index owners s) (part plan s) (legal s)

  -- after the first commands
  rest_behind : (place s : ℕ)
      → Rest v n s (phase_behind n (take place plan) owners s) (fold (left_after n) 0 (part (take place plan) s))
      (part (drop place plan) s)
  rest_behind place s =
      steps v n s (part (take place plan) s) (part (drop place plan) s) (closed_by owners s) 0
      (subst (Rest v n s (closed_by owners s) 0)
      (ap (λ l. part l s) (sym (take-append-drop place plan)) ∙ part_append (take place plan) (drop place plan) s)
      (first_rest s))

  -- a slot is open there exactly where commands are left of its leg
  pub is_open_behind : (place s : ℕ) → is_open (phase_behind n (take place plan) owners s)
      ≡ not (eqb (fold (left_after n) 0 (part (take place plan) s)) 0)
  is_open_behind place s =
      open_is v n s (phase_behind n (take place plan) owners s) (fold (left_after n) 0 (part (take place plan) s))
      (part (drop place plan) s) (rest_behind place s)

pub legal_plans_close : LegalPlansClose
legal_plans_close v n plan owners legal s =
    let begun : Rest v n s (closed_by owners s) 0 (part plan s) = first_rest v n plan owners legal s in
    at_end v n s (phase_behind n plan owners s) (fold (left_after n) 0 (part plan s))
    (steps v n s (part plan s) [] (closed_by owners s) 0
    (subst (Rest v n s (closed_by owners s) 0) (sym (append-nil (part plan s))) begun))
    ∙ ap (λ o. phase.Closed o) (all_lead v n s (part plan s) (closed_by owners s) 0 begun)
