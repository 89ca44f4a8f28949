-- That the least and the greatest batch are batches, and that no other is beyond them.
use Rattle.std.proofs.Common.{◌≡◌, ◌≤◌, ℕ, min, max, All, Contains, List, [], ◌∷◌, fold, Option, None, Some}
use Rattle.std.proofs.Common.{unwrap_or, suc, ◌⊎◌, inl, inr, refl, sym, ap, ◌∙◌, subst, arith}
use Rattle.std.proofs.Math.Nat.{le-max_left, le-max_right, max-eq_left, max-eq_right, min-eq_left, min-eq_right}
use Rattle.std.proofs.Math.Nat.{min-le_left, min-le_right}
use Rattle.std.proofs.lemmas.Bool.{cases_lt}
use Rattle.std.proofs.lemmas.List.Elements.{All-cons, All-nil}
use Rattle.plan_changes.specs.Batches.{AreBounds, BatchesHaveBounds, batches_of, least_with, most_batch, most_with}
use Rattle.plan_language.specs.declared.plan_command.PlanCommand.{PlanCommand}
use Rattle.plan_language.specs.declared.plan_command.PlanCommand.TheVariants.{Drain}

-- ---- the folds over commands are folds over batches

most_folds : (k : ℕ) (plan : List PlanCommand) → fold most_with k plan ≡ fold max k (batches_of plan)
most_folds k [] = refl
most_folds k (Drain s m t b ∷ plan) = most_folds (max k b) plan
most_folds k (c ∷ plan) = most_folds k plan

least_folds : (k : ℕ) (plan : List PlanCommand) → fold least_with (Some k) plan ≡ Some (fold min k (batches_of plan))
least_folds k [] = refl
least_folds k (Drain s m t b ∷ plan) = least_folds (min k b) plan
least_folds k (c ∷ plan) = least_folds k plan

-- the least of the numbers, or 0
least_of : List ℕ → ℕ
least_of [] = 0
least_of (b ∷ bs) = fold min b bs

first_folds : (plan : List PlanCommand) → unwrap_or (fold least_with None plan) 0 ≡ least_of (batches_of plan)
unfolding least_of
first_folds [] = refl
first_folds (Drain s m t b ∷ plan) = ap (λ o. unwrap_or o 0) (least_folds b plan)
first_folds (c ∷ plan) = first_folds plan

-- ---- the least and the most of numbers

further : (b : ℕ) (bs : List ℕ) (x : ℕ) → Contains bs x → Contains (b ∷ bs) x
further b bs x (k, lt, is) = (suc k, omega arith, is)

first : (b : ℕ) (bs : List ℕ) (x : ℕ) → b ≡ x → Contains (b ∷ bs) x
first b bs x is = (0, omega arith, is)

-- what the fold starts from, or one of the numbers
one_of : (k x b m : ℕ) (bs : List ℕ) → (x ≡ k) ⊎ (x ≡ b) → (m ≡ x) ⊎ Contains bs m → (m ≡ k) ⊎ Contains (b ∷ bs) m
one_of k x b m bs (inl same) (inl is) = inl (is ∙ same)
one_of k x b m bs (inr same) (inl is) = inr (first b bs m (sym (is ∙ same)))
one_of k x b m bs which (inr is) = inr (further b bs m is)

max_one : (a b : ℕ) → (max a b ≡ a) ⊎ (max a b ≡ b)
max_one a b = elim (cases_lt a b) [ inl h ↦ inr (max-eq_right (omega arith)) | inr h ↦ inl (max-eq_left h) ]

min_one : (a b : ℕ) → (min a b ≡ a) ⊎ (min a b ≡ b)
min_one a b = elim (cases_lt a b) [ inl h ↦ inl (min-eq_left (omega arith)) | inr h ↦ inr (min-eq_right h) ]

most_starts : (k : ℕ) (bs : List ℕ) → k ≤ fold max k bs
most_starts k [] = omega arith
most_starts k (b ∷ bs) = let more = le-max_left k b in let rest = most_starts (max k b) bs in omega arith

least_starts : (k : ℕ) (bs : List ℕ) → fold min k bs ≤ k
least_starts k [] = omega arith
least_starts k (b ∷ bs) = let less = min-le_left k b in let rest = least_starts (min k b) bs in omega arith

most_is : (k : ℕ) (bs : List ℕ) → (fold max k bs ≡ k) ⊎ Contains bs (fold max k bs)
most_is k [] = inl refl
most_is k (b ∷ bs) = one_of k (max k b) b (fold max (max k b) bs) bs (max_one k b) (most_is (max k b) bs)

least_is : (k : ℕ) (bs : List ℕ) → (fold min k bs ≡ k) ⊎ Contains bs (fold min k bs)
least_is k [] = inl refl
least_is k (b ∷ bs) = one_of k (min k b) b (fold min (min k b) bs) bs (min_one k b) (least_is (min k b) bs)

all_below : (k : ℕ) (bs : List ℕ) → All (λ b. b ≤ fold max k bs) bs
all_below k [] = All-nil (λ b. b ≤ k)
all_below k (b ∷ bs) =
    let here = le-max_right k b in
    let rest = most_starts (max k b) bs in
    All-cons (λ c. c ≤ fold max (max k b) bs) b bs (omega arith) (all_below (max k b) bs)

all_above : (k : ℕ) (bs : List ℕ) → All (λ b. fold min k bs ≤ b) bs
all_above k [] = All-nil (λ b. k ≤ b)
all_above k (b ∷ bs) =
    let here = min-le_right k b in
    let rest = least_starts (min k b) bs in
    All-cons (λ c. fold min (min k b) bs ≤ c) b bs (omega arith) (all_above (min k b) bs)

both : (l m : ℕ) (bs : List ℕ) → All (λ b. l ≤ b) bs → All (λ b. b ≤ m) bs → All (λ b. (l ≤ b) × (b ≤ m)) bs
both l m bs f g k d lt = (f k d lt, g k d lt)

among : (b m : ℕ) (bs : List ℕ) → (m ≡ b) ⊎ Contains bs m → Contains (b ∷ bs) m
among b m bs (inl is) = first b bs m (sym is)
among b m bs (inr is) = further b bs m is

from_zero : (b : ℕ) → max 0 b ≡ b
from_zero b = max-eq_right (omega arith)

from_first : (b : ℕ) (bs : List ℕ) → AreBounds (b ∷ bs) (fold min b bs) (fold max b bs)
from_first b bs = record {
  between = both (fold min b bs) (fold max b bs) (b ∷ bs)
      (All-cons (λ c. fold min b bs ≤ c) b bs (least_starts b bs) (all_above b bs))
      (All-cons (λ c. c ≤ fold max b bs) b bs (most_starts b bs) (all_below b bs));
  least_is = λ h. among b (fold min b bs) bs (least_is b bs);
  most_is = λ h. among b (fold max b bs) bs (most_is b bs);
  none = λ h. absurd (omega arith);
}

bounds : (bs : List ℕ) → AreBounds bs (least_of bs) (fold max 0 bs)
unfolding least_of
bounds [] = record {
  between = All-nil (λ b. (0 ≤ b) × (b ≤ 0));
  least_is = λ h. absurd (omega arith);
  most_is = λ h. absurd (omega arith);
  none = λ h. (refl, refl);
}
bounds (b ∷ bs) =
    subst (λ m. AreBounds (b ∷ bs) (fold min b bs) (fold max m bs)) (sym (from_zero b)) (from_first b bs)

pub have_bounds : BatchesHaveBounds
have_bounds plan =
    subst (λ l. AreBounds (batches_of plan) l (most_batch plan)) (sym (first_folds plan))
    (subst (λ m. AreBounds (batches_of plan) (least_of (batches_of plan)) m) (sym (most_folds 0 plan))
    (bounds (batches_of plan)))
