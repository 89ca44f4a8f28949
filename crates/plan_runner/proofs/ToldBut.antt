-- All of n nodes but those of a list.
use Rattle.std.proofs.Common.{◌≡◌, ◌≢◌, ℕ, zero, suc, ◌+◌, ◌<◌, ◌≤◌, Bool, true, false, not, cond, List, length, sym, refl, ap, ◌∙◌, subst, arith, inl, inr, get_or, set, length-set, add-one}
use Rattle.std.proofs.lemmas.Bool.{cases_eq, true≢false}
use Rattle.cluster_admin.specs.Phases.{among}
use Rattle.plan_runner.specs.SlotStates.{none_told, told_but}
use Rattle.plan_runner.proofs.OneSlot.{none_is, none_width, told_same, told_other}

pub told_width : (n : ℕ) (left : List ℕ) → length (told_but n left) ≡ 255
unfolding told_but
told_width zero left = none_width
told_width (suc n) left = by (among n left) (told_width n left)
  where
    by : (b : Bool) → length (told_but n left) ≡ 255 → length (cond b (told_but n left) (set (told_but n left) n true)) ≡ 255
    by true e = e
    by false e = length-set (told_but n left) n true ∙ e

-- no node past the last is
told_past : (n : ℕ) (left : List ℕ) (m : ℕ) → n ≤ m → get_or (told_but n left) m false ≡ false
unfolding told_but
told_past zero left m h = none_is m
told_past (suc n) left m h = by (among n left) (told_past n left m (omega arith))
  where
    apart : m ≢ n
    apart u = omega arith

    by : (b : Bool) → get_or (told_but n left) m false ≡ false → get_or (cond b (told_but n left) (set (told_but n left) n true)) m false ≡ false
    by true e = e
    by false e = told_other (told_but n left) n m apart ∙ e

-- and each below is but those of the list
pub told_but_is : (n : ℕ) (left : List ℕ) (m : ℕ) → n ≤ 255 → m < n → get_or (told_but n left) m false ≡ not (among m left)
unfolding told_but
told_but_is zero left m fits h = absurd (omega arith)
told_but_is (suc n) left m fits h = elim (cases_eq m n) [
  | inl u ↦ subst (λ k. get_or (told_but (suc n) left) k false ≡ not (among k left)) (sym u) (here (among n left))
  | inr u ↦ below u (among n left) (told_but_is n left m (omega arith) (omega arith))
]
  where
    inside : n < length (told_but n left)
    inside = subst (λ w. n < w) (sym (told_width n left)) (omega arith)

    here : (b : Bool) → get_or (cond b (told_but n left) (set (told_but n left) n true)) n false ≡ not b
    here true = told_past n left n (omega arith)
    here false = told_same (told_but n left) n inside

    below : m ≢ n → (b : Bool) → get_or (told_but n left) m false ≡ not (among m left)
        → get_or (cond b (told_but n left) (set (told_but n left) n true)) m false ≡ not (among m left)
    below u true e = e
    below u false e = told_other (told_but n left) n m u ∙ e

pub not_told : (n : ℕ) (left : List ℕ) (m : ℕ) → n ≤ 255 → m < n → among m left ≡ true → get_or (told_but n left) m false ≡ false
not_told n left m fits h e = told_but_is n left m fits h ∙ ap not e

pub not_left : (n : ℕ) (left : List ℕ) (m : ℕ) → n ≤ 255 → m < n → get_or (told_but n left) m false ≡ true → among m left ≡ false
not_left n left m fits h e = by (among m left) (sym (told_but_is n left m fits h) ∙ e)
  where
    by : (b : Bool) → not b ≡ true → b ≡ false
    by true u = absurd (true≢false (sym u))
    by false u = refl

pub is_left : (n : ℕ) (left : List ℕ) (m : ℕ) → n ≤ 255 → m < n → get_or (told_but n left) m false ≡ false → among m left ≡ true
is_left n left m fits h e = by (among m left) (sym (told_but_is n left m fits h) ∙ e)
  where
    by : (b : Bool) → not b ≡ false → b ≡ true
    by true u = refl
    by false u = absurd (true≢false u)

-- ---- one node after the other

pub none_yet : (left : List ℕ) → none_told ≡ told_but 0 left
unfolding told_but
none_yet left = refl

pub with_one : (k : ℕ) (left : List ℕ) → among k left ≡ false → set (told_but k left) k true ≡ told_but (k + 1) left
unfolding told_but
with_one k left e = sym (ap (λ b. cond b (told_but k left) (set (told_but k left) k true)) e) ∙ next
  where
    next : told_but (suc k) left ≡ told_but (k + 1) left
    next = ap (λ m. told_but m left) (sym (add-one k))

pub without_one : (k : ℕ) (left : List ℕ) → among k left ≡ true → told_but k left ≡ told_but (k + 1) left
unfolding told_but
without_one k left e = sym (ap (λ b. cond b (told_but k left) (set (told_but k left) k true)) e) ∙ next
  where
    next : told_but (suc k) left ≡ told_but (k + 1) left
    next = ap (λ m. told_but m left) (sym (add-one k))

-- the same nodes are left where the lists have the same
pub same_but : (n : ℕ) (left left' : List ℕ) → ((m : ℕ) → among m left ≡ among m left') → told_but n left ≡ told_but n left'
unfolding told_but
same_but zero left left' same = refl
same_but (suc n) left left' same = λ i. cond (same n i) (same_but n left left' same i) (set (same_but n left left' same i) n true)
