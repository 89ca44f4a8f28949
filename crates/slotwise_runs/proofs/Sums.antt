-- What a plan costs is what its parts cost together.
use Rattle.std.proofs.Common.{◌≡◌, ◌≢◌, ℕ, zero, suc, ◌+◌, ◌*◌, ◌≤◌, Bool, true, false, cond, not, eqb, List, [], ◌∷◌, length, sym, refl, ap, ◌∙◌, subst, subst₂, arith, inl, inr}
use Rattle.std.proofs.lemmas.Bool.{cases_Bool, cases_eq, cond-true, cond-false, eqb-true, eqb-false, eq-eqb, ne_eqb}
use Rattle.std.specs.List.{AllByRecursion}
use Rattle.std.specs.Prelude.{filter, slice_index}
use Rattle.cluster_admin.specs.declared.call.AdminCall.{AdminCall}
use Rattle.plan_language.specs.declared.plan_command.PlanCommand.{PlanCommand}
use Rattle.plan_language.specs.declared.plan_command.PlanCommand.TheVariants as planned
use Rattle.plan_semantics.specs.Costs.{Counts, cost, none_passed, one_more, rounds}
use Rattle.plan_semantics.specs.Plans.{part, slot_named}
use Rattle.reshard_theorem.proofs.Spending.{one_other}
use Rattle.slotwise_runs.specs.Seen.{of_slot, slot_called}
use Rattle.slotwise_runs.proofs.Parts.{dropped, kept, part-without_other, part-without_same, without}

-- ---- costs

abbrev AreAlike : (ℕ → ℕ) → (ℕ → ℕ) → List PlanCommand → Type 0
AreAlike p q xs = AllByRecursion (λ o. p (slot_named o) ≡ q (slot_named o)) xs

alike_on : (s : ℕ) (p q : ℕ → ℕ) (xs : List PlanCommand) → AreAlike p q xs → AreAlike (one_more p s) (one_more q s) xs
alike_on s p q [] h = tt
alike_on s p q (o ∷ xs) h = (ap (λ v. cond (eqb (slot_named o) s) (1 + v) v) h.0, alike_on s p q xs h.1)

cost_alike : (p q : ℕ → ℕ) (κ : Counts) (xs : List PlanCommand) → AreAlike p q xs → cost p κ xs ≡ cost q κ xs
cost_alike p q κ [] h = refl
cost_alike p q κ (planned.Importing s m at ∷ xs) h = ap (λ x. 1 + x) (cost_alike p q κ xs h.1)
cost_alike p q κ (planned.Migrating s m at ∷ xs) h = ap (λ x. 1 + x) (cost_alike p q κ xs h.1)
cost_alike p q κ (planned.SetNode s m at ∷ xs) h = ap (λ x. 1 + x) (cost_alike p q κ xs h.1)
cost_alike p q κ (planned.Stable s at ∷ xs) h = ap (λ x. 1 + x) (cost_alike p q κ xs h.1)
cost_alike p q κ (planned.Drain s m t b ∷ xs) h =
    ap (λ i. (2 * rounds b (slice_index (κ s) i) + 1) + cost (one_more p s) κ xs) h.0
    ∙ ap (λ x. (2 * rounds b (slice_index (κ s) (q s)) + 1) + x) (cost_alike (one_more p s) (one_more q s) κ xs (alike_on s p q xs h.1))

-- one drain more of a slot is none of the others'
alike_without : (s : ℕ) (p : ℕ → ℕ) (xs : List PlanCommand) → AreAlike (one_more p s) p (without s xs)
alike_without s p [] = tt
alike_without s p (o ∷ xs) = elim (cases_Bool (eqb (slot_named o) s)) [
  | inl e ↦ subst (AreAlike (one_more p s) p) (sym (dropped (not (eqb (slot_named o) s)) o (without s xs) (ap not e))) (alike_without s p xs)
  | inr e ↦ subst (AreAlike (one_more p s) p) (sym (kept (not (eqb (slot_named o) s)) o (without s xs) (ap not e)))
      (one_other p s (slot_named o) (eqb-false (slot_named o) s e), alike_without s p xs)
]

alike_part : (s u : ℕ) (p : ℕ → ℕ) (xs : List PlanCommand) → u ≢ s → AreAlike (one_more p u) p (part xs s)
alike_part s u p [] apart = tt
alike_part s u p (o ∷ xs) apart = elim (cases_Bool (eqb (slot_named o) s)) [
  | inl e ↦ subst (AreAlike (one_more p u) p) (sym (kept (eqb (slot_named o) s) o (part xs s) e))
      (one_other p u (slot_named o) (λ f. apart (sym f ∙ eqb-true (slot_named o) s e)), alike_part s u p xs apart)
  | inr e ↦ subst (AreAlike (one_more p u) p) (sym (dropped (eqb (slot_named o) s) o (part xs s) e)) (alike_part s u p xs apart)
]

module _ (κ : Counts) (s : ℕ) where
  -- a command that costs one call
  one_call : (p : ℕ → ℕ) (o : PlanCommand) (xs : List PlanCommand) → ((l : List PlanCommand) → cost p κ (o ∷ l) ≡ 1 + cost p κ l)
      → cost p κ xs ≡ cost p κ (part xs s) + cost p κ (without s xs) → cost p κ (o ∷ xs) ≡ cost p κ (part (o ∷ xs) s) + cost p κ (without s (o ∷ xs))
  one_call p o xs one h = elim (cases_Bool (eqb (slot_named o) s)) [
    | inl e ↦
        let a : cost p κ (part (o ∷ xs) s) ≡ 1 + cost p κ (part xs s) = ap (cost p κ) (kept (eqb (slot_named o) s) o (part xs s) e) ∙ one (part xs s) in
        let b : cost p κ (without s (o ∷ xs)) ≡ cost p κ (without s xs) = ap (cost p κ) (dropped (not (eqb (slot_named o) s)) o (without s xs) (ap not e)) in
        let c : cost p κ (o ∷ xs) ≡ 1 + cost p κ xs = one xs in
        omega (arith, h)
    | inr e ↦
        let a : cost p κ (part (o ∷ xs) s) ≡ cost p κ (part xs s) = ap (cost p κ) (dropped (eqb (slot_named o) s) o (part xs s) e) in
        let b : cost p κ (without s (o ∷ xs)) ≡ 1 + cost p κ (without s xs) = ap (cost p κ) (kept (not (eqb (slot_named o) s)) o (without s xs) (ap not e)) ∙ one (without s xs) in
        let c : cost p κ (o ∷ xs) ≡ 1 + cost p κ xs = one xs in
        omega (arith, h)
  ]

  pub cost_parted : (p : ℕ → ℕ) (xs : List PlanCommand) → cost p κ xs ≡ cost p κ (part xs s) + cost p κ (without s xs)
  cost_parted p [] = refl
  cost_parted p (planned.Importing u m at ∷ xs) = one_call p (planned.Importing u m at) xs (λ l. refl) (cost_parted p xs)
  cost_parted p (planned.Migrating u m at ∷ xs) = one_call p (planned.Migrating u m at) xs (λ l. refl) (cost_parted p xs)
  cost_parted p (planned.SetNode u m at ∷ xs) = one_call p (planned.SetNode u m at) xs (λ l. refl) (cost_parted p xs)
  cost_parted p (planned.Stable u at ∷ xs) = one_call p (planned.Stable u at) xs (λ l. refl) (cost_parted p xs)
  cost_parted p (planned.Drain u m t b ∷ xs) = elim (cases_Bool (eqb u s)) [
    | inl e ↦
        let h : cost (one_more p u) κ xs ≡ cost (one_more p u) κ (part xs s) + cost (one_more p u) κ (without s xs) = cost_parted (one_more p u) xs in
        let a : cost p κ (part (planned.Drain u m t b ∷ xs) s) ≡ (2 * rounds b (slice_index (κ u) (p u)) + 1) + cost (one_more p u) κ (part xs s) =
        ap (cost p κ) (kept (eqb u s) (planned.Drain u m t b) (part xs s) e) in
        let c : cost p κ (without s (planned.Drain u m t b ∷ xs)) ≡ cost p κ (without s xs) = ap (cost p κ) (dropped (not (eqb u s)) (planned.Drain u m t b) (without s xs) (ap not e)) in
        let d : cost (one_more p u) κ (without s xs) ≡ cost p κ (without s xs) = cost_alike (one_more p u) p κ (without s xs)
        (subst (λ v. AreAlike (one_more p v) p (without s xs)) (sym (eqb-true u s e)) (alike_without s p xs)) in
        omega (arith, h)
    | inr e ↦
        let h : cost (one_more p u) κ xs ≡ cost (one_more p u) κ (part xs s) + cost (one_more p u) κ (without s xs) = cost_parted (one_more p u) xs in
        let a : cost p κ (part (planned.Drain u m t b ∷ xs) s) ≡ cost p κ (part xs s) = ap (cost p κ) (dropped (eqb u s) (planned.Drain u m t b) (part xs s) e) in
        let c : cost p κ (without s (planned.Drain u m t b ∷ xs)) ≡ (2 * rounds b (slice_index (κ u) (p u)) + 1) + cost (one_more p u) κ (without s xs) =
        ap (cost p κ) (kept (not (eqb u s)) (planned.Drain u m t b) (without s xs) (ap not e)) in
        let d : cost (one_more p u) κ (part xs s) ≡ cost p κ (part xs s) = cost_alike (one_more p u) p κ (part xs s) (alike_part s u p xs (eqb-false u s e)) in
        omega (arith, h)
  ]

-- ---- calls

abbrev calls_without : ℕ → List AdminCall → List AdminCall
calls_without s cs = filter (λ c. not (eqb (slot_called c.command) s)) cs

calls_parted : (s : ℕ) (cs : List AdminCall) → length cs ≡ length (of_slot s cs) + length (calls_without s cs)
calls_parted s [] = refl
calls_parted s (c ∷ cs) = elim (cases_Bool (eqb (slot_called c.command) s)) [
  | inl e ↦
      let a : length (of_slot s (c ∷ cs)) ≡ suc (length (of_slot s cs)) = ap length (kept (eqb (slot_called c.command) s) c (of_slot s cs) e) in
      let b : length (calls_without s (c ∷ cs)) ≡ length (calls_without s cs) = ap length (dropped (not (eqb (slot_called c.command) s)) c (calls_without s cs) (ap not e)) in
      let h = calls_parted s cs in
      omega (arith, h)
  | inr e ↦
      let a : length (of_slot s (c ∷ cs)) ≡ length (of_slot s cs) = ap length (dropped (eqb (slot_called c.command) s) c (of_slot s cs) e) in
      let b : length (calls_without s (c ∷ cs)) ≡ suc (length (calls_without s cs)) = ap length (kept (not (eqb (slot_called c.command) s)) c (calls_without s cs) (ap not e)) in
      let h = calls_parted s cs in
      omega (arith, h)
]

calls_of_same : (s : ℕ) (cs : List AdminCall) → of_slot s (calls_without s cs) ≡ []
calls_of_same s [] = refl
calls_of_same s (c ∷ cs) = elim (cases_Bool (eqb (slot_called c.command) s)) [
  | inl e ↦ ap (of_slot s) (dropped (not (eqb (slot_called c.command) s)) c (calls_without s cs) (ap not e)) ∙ calls_of_same s cs
  | inr e ↦ ap (of_slot s) (kept (not (eqb (slot_called c.command) s)) c (calls_without s cs) (ap not e))
      ∙ dropped (eqb (slot_called c.command) s) c (of_slot s (calls_without s cs)) e ∙ calls_of_same s cs
]

calls_of_other : (s t : ℕ) (cs : List AdminCall) → s ≢ t → of_slot t (calls_without s cs) ≡ of_slot t cs
calls_of_other s t [] apart = refl
calls_of_other s t (c ∷ cs) apart = elim (cases_Bool (eqb (slot_called c.command) s)) [
  | inl e ↦ ap (of_slot t) (dropped (not (eqb (slot_called c.command) s)) c (calls_without s cs) (ap not e)) ∙ calls_of_other s t cs apart
      ∙ sym (dropped (eqb (slot_called c.command) t) c (of_slot t cs) (ne_eqb (slot_called c.command) t (λ f. apart (sym (eqb-true (slot_called c.command) s e) ∙ f))))
  | inr e ↦ ap (of_slot t) (kept (not (eqb (slot_called c.command) s)) c (calls_without s cs) (ap not e))
      ∙ ap (λ l. cond (eqb (slot_called c.command) t) (c ∷ l) l) (calls_of_other s t cs apart)
]

-- ---- slot by slot, and together

module _ (κ : Counts) where
  within_all : (fuel : ℕ) (plan : List PlanCommand) (cs : List AdminCall) → length cs ≤ fuel
      → ((s : ℕ) → length (of_slot s cs) ≤ cost none_passed κ (part plan s)) → length cs ≤ cost none_passed κ plan
  within_all fuel plan [] small each = omega arith
  within_all zero plan (c ∷ cs) small each = absurd (omega arith)
  within_all (suc fuel) plan (c ∷ cs) small each =
      let s : ℕ = slot_called c.command in
      let here : of_slot s (c ∷ cs) ≡ c ∷ of_slot s cs = kept (eqb s s) c (of_slot s cs) (eq-eqb s s refl) in
      let many : length (of_slot s (c ∷ cs)) ≡ suc (length (of_slot s cs)) = ap length here in
      let parted : length (c ∷ cs) ≡ length (of_slot s (c ∷ cs)) + length (calls_without s (c ∷ cs)) = calls_parted s (c ∷ cs) in
      let fewer : length (calls_without s (c ∷ cs)) ≤ fuel = omega arith in
      let others : length (calls_without s (c ∷ cs)) ≤ cost none_passed κ (without s plan) =
      within_all fuel (without s plan) (calls_without s (c ∷ cs)) fewer (λ t. elim (cases_eq s t) [
        | inl e ↦ subst (λ u. length (of_slot u (calls_without s (c ∷ cs))) ≤ cost none_passed κ (part (without s plan) u)) e
            (let z : length (of_slot s (calls_without s (c ∷ cs))) ≡ 0 = ap length (calls_of_same s (c ∷ cs)) in omega arith)
        | inr e ↦ subst₂ (λ l p. length l ≤ cost none_passed κ p) (sym (calls_of_other s t (c ∷ cs) e)) (sym (part-without_other s t plan e)) (each t)
      ]) in
      let total : cost none_passed κ plan ≡ cost none_passed κ (part plan s) + cost none_passed κ (without s plan) = cost_parted κ s none_passed plan in
      let one : length (of_slot s (c ∷ cs)) ≤ cost none_passed κ (part plan s) = each s in
      omega arith

  pub within_together : (plan : List PlanCommand) (cs : List AdminCall)
      → ((s : ℕ) → length (of_slot s cs) ≤ cost none_passed κ (part plan s)) → length cs ≤ cost none_passed κ plan
  within_together plan cs each = within_all (length cs) plan cs (omega arith) each
