-- A `move` line, command by command.
use Rattle.std.proofs.Common.{◌≡◌, ◌≢◌, ℕ, zero, suc, ◌+◌, ◌-◌, ◌*◌, ◌<◌, ◌≤◌, cond, not, ◌&&◌, eqb, [], ◌∷◌, ◌++◌}
use Rattle.std.proofs.Common.{map, filter, length, sym, refl, ap, ◌∙◌, subst, arith, length-append}
use Rattle.std.proofs.lemmas.List.{length-map}
use Rattle.std.proofs.lemmas.Bool.{ne_eqb, eq-eqb, and_right}
use native.Mathlib.Nat.{zero-mul, suc-mul}
use Rattle.plan_language.specs.declared.plan_command.PlanCommand.TheVariants as planned
use Rattle.plan_language.specs.Moves.{move_of}
use Rattle.plan_language.specs.Lines.{numbers_from, others, moves}
use Rattle.plan_language.specs.MovesLeft.{others_from, slot_left, move_left}
use Rattle.plan_language.specs.declared.commands.MoveCommands.{MoveCommands}

pub others_step : (n s t m : ℕ) → m < n → others_from n s t m
    ≡ cond (not (eqb m s) && not (eqb m t)) (m ∷ others_from n s t (m + 1)) (others_from n s t (m + 1))
unfolding others_from numbers_from
others_step n s t m h = subst (λ k. filter (λ x. not (eqb x s) && not (eqb x t)) (numbers_from m k)
    ≡ cond (not (eqb m s) && not (eqb m t)) (m
    ∷ others_from n s t (m + 1)) (others_from n s t (m + 1))) (sym (more n m h)) refl
  where
    more : (n m : ℕ) → m < n → n - m ≡ suc (n - (m + 1))
    more n m h = omega arith

pub others_kept : (n s t m : ℕ) → m < n → m ≢ s → m ≢ t → others_from n s t m ≡ m ∷ others_from n s t (m + 1)
others_kept n s t m h a b = others_step n s t m h
    ∙ (λ i. cond (not (ne_eqb m s a i) && not (ne_eqb m t b i)) (m
    ∷ others_from n s t (m + 1)) (others_from n s t (m + 1)))

pub others_source : (n s t m : ℕ) → m < n → m ≡ s → others_from n s t m ≡ others_from n s t (m + 1)
others_source n s t m h a = others_step n s t m h
    ∙ (λ i. cond (not (eq-eqb m s a i) && not (eqb m t)) (m ∷ others_from n s t (m + 1)) (others_from n s t (m + 1)))

pub others_target : (n s t m : ℕ) → m < n → m ≡ t → others_from n s t m ≡ others_from n s t (m + 1)
others_target n s t m h a = others_step n s t m h
    ∙ ap (λ b. cond b (m ∷ others_from n s t (m + 1)) (others_from n s t (m + 1)))
    (and_right (not (eqb m s)) (not (eqb m t)) (ap not (eq-eqb m t a)))

pub others_none : (n s t m : ℕ) → n ≤ m → others_from n s t m ≡ []
unfolding others_from numbers_from
others_none n s t m h = ap (λ k. filter (λ x. not (eqb x s) && not (eqb x t)) (numbers_from m k)) (none n m h)
  where
    none : (n m : ℕ) → n ≤ m → n - m ≡ 0
    none n m h = omega arith

pub others_all : (n s t : ℕ) → others n s t ≡ others_from n s t 0
unfolding others_from others
others_all n s t = ap (λ k. filter (λ x. not (eqb x s) && not (eqb x t)) (numbers_from 0 k)) (all n)
  where
    all : (n : ℕ) → n ≡ n - 0
    all n = omega arith

pub moves_none : (n first s t b : ℕ) → moves n first 0 s t b ≡ []
unfolding moves
moves_none n first s t b = refl

pub moves_next : (n slot last s t b : ℕ) → slot < last
    → moves n (slot + 1) (last - slot) s t b ≡ move_of (slot + 1) s t b (others n s t)
    ++ moves n (slot + 1 + 1) (last - (slot + 1)) s t b
unfolding moves
moves_next n slot last s t b h = subst (λ k. moves n (slot + 1) k s t b
    ≡ move_of (slot + 1) s t b (others n s t)
    ++ moves n (slot + 1 + 1) (last - (slot + 1)) s t b) (sym (more slot last h)) refl
  where
    more : (slot last : ℕ) → slot < last → last - slot ≡ suc (last - (slot + 1))
    more slot last h = omega arith

pub moves_first : (n first last s t b : ℕ) → first ≤ last
    → moves n first (last + 1 - first) s t b ≡ move_of first s t b (others n s t)
    ++ moves n (first + 1) (last - first) s t b
unfolding moves
moves_first n first last s t b h = subst (λ k. moves n first k s t b
    ≡ move_of first s t b (others n s t) ++ moves n (first + 1) (last - first) s t b) (sym (more first last h)) refl
  where
    more : (first last : ℕ) → first ≤ last → last + 1 - first ≡ suc (last - first)
    more first last h = omega arith

pub moves_length : (n k first s t b : ℕ) → length (moves n first k s t b) ≡ k * (5 + length (others n s t))
unfolding moves
moves_length n zero first s t b = sym (zero-mul (5 + length (others n s t)))
moves_length n (suc k) first s t b =
    let r : length (moves n (first + 1) k s t b)
    ≡ k * (5 + length (others n s t)) = moves_length n k (first + 1) s t b in
    let m : length (map (λ m. planned.SetNode first t m) (others n s t))
    ≡ length (others n s t) = length-map (others n s t) (λ m. planned.SetNode first t m) in
    let a : length (move_of first s t b (others n s t) ++ moves n (first + 1) k s t b)
    ≡ length (move_of first s t b (others n s t)) + length (moves n (first + 1) k s t b) =
    length-append (move_of first s t b (others n s t)) (moves n (first + 1) k s t b) in
    let p : suc k * (5 + length (others n s t))
    ≡ k * (5 + length (others n s t)) + (5 + length (others n s t)) = suc-mul k (5 + length (others n s t)) in
    omega arith

-- where a slot has no command left, those of the slots after it are left
pub move_ends : (n : ℕ) (w : MoveCommands) → slot_left n w.slot w.source w.target w.batch w.step ≡ []
    → w.slot ≡ w.last → move_left n w ≡ []
move_ends n w none e = (λ i. none i ++ moves n (w.slot + 1) (w.last - w.slot) w.source w.target w.batch)
    ∙ ap (λ k. moves n (w.slot + 1) k w.source w.target w.batch) (zero_left w.slot w.last e)
    ∙ moves_none n (w.slot + 1) w.source w.target w.batch
  where
    zero_left : (a b : ℕ) → a ≡ b → b - a ≡ 0
    zero_left a b e = omega arith

pub move_goes : (n : ℕ) (w : MoveCommands) → slot_left n w.slot w.source w.target w.batch w.step ≡ [] → w.slot < w.last
    → move_left n w ≡ move_of (w.slot + 1) w.source w.target w.batch (others n w.source w.target)
    ++ moves n (w.slot + 1 + 1) (w.last - (w.slot + 1)) w.source w.target w.batch
move_goes n w none h = (λ i. none i ++ moves n (w.slot + 1) (w.last - w.slot) w.source w.target w.batch)
    ∙ moves_next n w.slot w.last w.source w.target w.batch h

pub ruleset others_from_here = (others_kept, others_source, others_target, others_none)

pub ruleset moves_from_here = (others_all, moves_none, moves_next)
