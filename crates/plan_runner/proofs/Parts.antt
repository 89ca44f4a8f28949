-- The commands of a plan that name a slot.
use Rattle.std.proofs.Common.{◌≡◌, ◌≢◌, ℕ, zero, suc, ◌+◌, Bool, true, false, cond, eqb, List, [], ◌∷◌, ◌++◌, map, sym, refl, ap, ◌∙◌, subst, arith, append_assoc}
use Rattle.std.proofs.lemmas.Bool.{cond-true, cond-false, eq-eqb, eqb-true, ne_eqb}
use Rattle.std.specs.List.{AllByRecursion}
use Rattle.plan_language.specs.declared.plan_command.PlanCommand.{PlanCommand}
use Rattle.plan_language.specs.declared.plan_command.PlanCommand.TheVariants as planned
use Rattle.plan_language.specs.Moves.{move_of}
use Rattle.plan_language.specs.Lines.{others, moves}
use Rattle.plan_semantics.specs.Plans.{slot_named, part}

-- all commands name the slot
abbrev pub Name : ℕ → List PlanCommand → Type 0
Name s os = AllByRecursion (λ o. slot_named o ≡ s) os

pub part_append : (xs ys : List PlanCommand) (x : ℕ) → part (xs ++ ys) x ≡ part xs x ++ part ys x
part_append [] ys x = refl
part_append (o ∷ xs) ys x = by (eqb (slot_named o) x) (part_append xs ys x)
  where
    by : (b : Bool) → part (xs ++ ys) x ≡ part xs x ++ part ys x
        → cond b (o ∷ part (xs ++ ys) x) (part (xs ++ ys) x) ≡ cond b (o ∷ part xs x) (part xs x) ++ part ys x
    by true e = ap (λ l. o ∷ l) e
    by false e = e

pub part_same : (f : ℕ) (os : List PlanCommand) → Name f os → part os f ≡ os
part_same f [] h = refl
part_same f (o ∷ os) h = cond-true _ _ _ (eq-eqb (slot_named o) f h.0) ∙ ap (λ l. o ∷ l) (part_same f os h.1)

pub part_none : (f x : ℕ) (os : List PlanCommand) → x ≢ f → Name f os → part os x ≡ []
part_none f x [] e h = refl
part_none f x (o ∷ os) e h =
    cond-false _ _ _ (ne_eqb (slot_named o) x (λ u. e (sym u ∙ h.0))) ∙ part_none f x os e h.1

pub part_names : (plan : List PlanCommand) (s : ℕ) → Name s (part plan s)
part_names [] s = tt
part_names (o ∷ plan) s = by (eqb (slot_named o) s) refl (part_names plan s)
  where
    by : (b : Bool) → eqb (slot_named o) s ≡ b → Name s (part plan s) → Name s (cond b (o ∷ part plan s) (part plan s))
    by true e h = (eqb-true (slot_named o) s e, h)
    by false e h = h

pub part_all : (P : PlanCommand → Type 0) (plan : List PlanCommand) (s : ℕ) → AllByRecursion P plan
    → AllByRecursion P (part plan s)
part_all P [] s h = tt
part_all P (o ∷ plan) s h = by (eqb (slot_named o) s) (part_all P plan s h.1)
  where
    by : (b : Bool) → AllByRecursion P (part plan s) → AllByRecursion P (cond b (o ∷ part plan s) (part plan s))
    by true g = (h.0, g)
    by false g = g

-- what holds of each part holds of the whole
pub from_parts : (P : PlanCommand → Type 0) (plan : List PlanCommand) → ((s : ℕ) → AllByRecursion P (part plan s))
    → AllByRecursion P plan
from_parts P [] h = tt
from_parts P (o ∷ plan) h = (head (h (slot_named o)), from_parts P plan (λ s. tail s (eqb (slot_named o) s) (h s)))
  where
    head : AllByRecursion P (cond (eqb (slot_named o) (slot_named o)) (o ∷ part plan (slot_named o)) (part plan (slot_named o))) → P o
    head g = (subst (λ b. AllByRecursion P (cond b (o ∷ part plan (slot_named o)) (part plan (slot_named o)))) (eq-eqb (slot_named o) (slot_named o) refl) g).0

    tail : (s : ℕ) (b : Bool) → AllByRecursion P (cond b (o ∷ part plan s) (part plan s)) → AllByRecursion P (part plan s)
    tail s true g = g.1
    tail s false g = g

all_tell : (f t : ℕ) (ms : List ℕ) → Name f (map (λ m. planned.SetNode f t m) ms)
all_tell f t [] = tt
all_tell f t (m ∷ ms) = (refl, all_tell f t ms)

pub move_names : (f s t b : ℕ) (ms : List ℕ) → Name f (move_of f s t b ms)
move_names f s t b ms = (refl, (refl, (refl, (refl, (refl, all_tell f t ms)))))

pub moves_split : (n k m first s t b : ℕ) → moves n first (k + m) s t b ≡ moves n first k s t b ++ moves n (first + k) m s t b
unfolding moves
moves_split n zero m first s t b = (λ i. moves n first (plus m i) s t b) ∙ (λ i. moves n (none first i) m s t b)
  where
    plus : (m : ℕ) → 0 + m ≡ m
    plus m = omega arith

    none : (f : ℕ) → f ≡ f + 0
    none f = omega arith
moves_split n (suc k) m first s t b =
    (λ i. moves n first (more k m i) s t b)
    ∙ ap (λ l. move_of first s t b (others n s t) ++ l)
    (moves_split n k m (first + 1) s t b ∙ (λ i. moves n (first + 1) k s t b ++ moves n (along first k i) m s t b))
    ∙ sym (append_assoc (move_of first s t b (others n s t)) (moves n (first + 1) k s t b) (moves n (first + suc k) m s t b))
  where
    more : (k m : ℕ) → suc k + m ≡ suc (k + m)
    more k m = omega arith

    along : (f k : ℕ) → f + 1 + k ≡ f + suc k
    along f k = omega arith
