-- The parts of a plan, one slot's taken to the front.
use Rattle.std.proofs.Common.{◌≡◌, ◌≢◌, ℕ, true, false, not, eqb, cond, Bool, List, [], ◌∷◌, ◌++◌, append-nil, sym, refl, ap, ◌∙◌, subst, inl, inr}
use Rattle.std.proofs.lemmas.Bool.{cases_Bool, cases_eq, cond-true, cond-false, eq-eqb, eqb-true, eqb-false, ne_eqb}
use Rattle.std.specs.List.{AllByRecursion}
use Rattle.std.specs.Prelude.{filter}
use Rattle.plan_language.specs.declared.plan_command.PlanCommand.{PlanCommand}
use Rattle.plan_semantics.specs.Plans.{part, slot_named}
use Rattle.plan_semantics.proofs.OwnedMoves.{part-append}

-- all of these commands name the slot
abbrev pub AllOf : ℕ → List PlanCommand → Type 0
AllOf s xs = AllByRecursion (λ o. slot_named o ≡ s) xs

-- the commands that name other slots, in order
abbrev pub without : ℕ → List PlanCommand → List PlanCommand
without s plan = filter (λ o. not (eqb (slot_named o) s)) plan

-- one slot's commands come first
abbrev pub front : ℕ → List PlanCommand → List PlanCommand
front s plan = part plan s ++ without s plan

pub kept : {A : Type 0} (b : Bool) (x : A) (xs : List A) → b ≡ true → cond b (x ∷ xs) xs ≡ x ∷ xs
kept b x xs e = cond-true b (x ∷ xs) xs e

pub dropped : {A : Type 0} (b : Bool) (x : A) (xs : List A) → b ≡ false → cond b (x ∷ xs) xs ≡ xs
dropped b x xs e = cond-false b (x ∷ xs) xs e

pub all-part : (plan : List PlanCommand) (s : ℕ) → AllOf s (part plan s)
all-part [] s = tt
all-part (o ∷ plan) s = elim (cases_Bool (eqb (slot_named o) s)) [
  | inl e ↦ subst (AllOf s) (sym (kept (eqb (slot_named o) s) o (part plan s) e)) (eqb-true (slot_named o) s e, all-part plan s)
  | inr e ↦ subst (AllOf s) (sym (dropped (eqb (slot_named o) s) o (part plan s) e)) (all-part plan s)
]

pub part-all : (s : ℕ) (xs : List PlanCommand) → AllOf s xs → part xs s ≡ xs
part-all s [] h = refl
part-all s (o ∷ xs) h = kept (eqb (slot_named o) s) o (part xs s) (eq-eqb (slot_named o) s h.0) ∙ ap (λ l. o ∷ l) (part-all s xs h.1)

pub part-of_other : (s t : ℕ) (xs : List PlanCommand) → s ≢ t → AllOf s xs → part xs t ≡ []
part-of_other s t [] e h = refl
part-of_other s t (o ∷ xs) e h = dropped (eqb (slot_named o) t) o (part xs t) (ne_eqb (slot_named o) t (λ f. e (sym h.0 ∙ f))) ∙ part-of_other s t xs e h.1

pub part-without_same : (s : ℕ) (plan : List PlanCommand) → part (without s plan) s ≡ []
part-without_same s [] = refl
part-without_same s (o ∷ plan) = elim (cases_Bool (eqb (slot_named o) s)) [
  | inl e ↦ ap (λ l. part l s) (dropped (not (eqb (slot_named o) s)) o (without s plan) (ap not e)) ∙ part-without_same s plan
  | inr e ↦ ap (λ l. part l s) (kept (not (eqb (slot_named o) s)) o (without s plan) (ap not e)) ∙ dropped (eqb (slot_named o) s) o (part (without s plan) s) e
      ∙ part-without_same s plan
]

pub part-without_other : (s t : ℕ) (plan : List PlanCommand) → s ≢ t → part (without s plan) t ≡ part plan t
part-without_other s t [] apart = refl
part-without_other s t (o ∷ plan) apart = elim (cases_Bool (eqb (slot_named o) s)) [
  | inl e ↦ ap (λ l. part l t) (dropped (not (eqb (slot_named o) s)) o (without s plan) (ap not e)) ∙ part-without_other s t plan apart
      ∙ sym (dropped (eqb (slot_named o) t) o (part plan t) (ne_eqb (slot_named o) t (λ f. apart (sym (eqb-true (slot_named o) s e) ∙ f))))
  | inr e ↦ ap (λ l. part l t) (kept (not (eqb (slot_named o) s)) o (without s plan) (ap not e))
      ∙ ap (λ l. cond (eqb (slot_named o) t) (o ∷ l) l) (part-without_other s t plan apart)
]

-- whatever commands of the slot stand in front of those of the others
pub part-front_same : (s : ℕ) (xs plan : List PlanCommand) → AllOf s xs → part (xs ++ without s plan) s ≡ xs
part-front_same s xs plan h = part-append xs (without s plan) s ∙ ap (λ l. l ++ part (without s plan) s) (part-all s xs h)
    ∙ ap (λ l. xs ++ l) (part-without_same s plan) ∙ append-nil xs

pub part-front_other : (s t : ℕ) (xs plan : List PlanCommand) → s ≢ t → AllOf s xs → part (xs ++ without s plan) t ≡ part plan t
part-front_other s t xs plan apart h = part-append xs (without s plan) t ∙ ap (λ l. l ++ part (without s plan) t) (part-of_other s t xs apart h)
    ∙ part-without_other s t plan apart

pub part-front : (s : ℕ) (plan : List PlanCommand) (t : ℕ) → part (front s plan) t ≡ part plan t
part-front s plan t = elim (cases_eq s t) [
  | inl e ↦ subst (λ u. part (front s plan) u ≡ part plan u) e (part-front_same s (part plan s) plan (all-part plan s))
  | inr e ↦ part-front_other s t (part plan s) plan e (all-part plan s)
]

-- a plan of which no slot has a part has no command
pub none_left : (plan : List PlanCommand) → ((s : ℕ) → part plan s ≡ []) → plan ≡ []
none_left [] h = refl
none_left (o ∷ plan) h = absurd (some (sym (kept (eqb (slot_named o) (slot_named o)) o (part plan (slot_named o)) (eq-eqb (slot_named o) (slot_named o) refl)) ∙ h (slot_named o)))
  where
    some : o ∷ part plan (slot_named o) ≡ [] → ⊥
    some e = cc
