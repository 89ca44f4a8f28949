-- In a legal plan as many slots are open as have commands of their leg left.
use Rattle.std.proofs.Common.{◌≡◌, ℕ, ◌+◌, ◌<◌, ◌≤◌, Bool, false, cond, not, eqb, List, [], ◌∷◌, fold, length, take}
use Rattle.std.proofs.Common.{map}
use Rattle.std.proofs.Common.{get_or, set, length-set, get_or-set_same, get_or-set_other, sym, refl, ap, ◌∙◌, subst}
use Rattle.std.proofs.Common.{arith, inl, inr}
use Rattle.std.specs.List.{count_by}
use Rattle.std.proofs.lemmas.Bool.{cases_eq, eq-eqb, ne_eqb}
use Rattle.std.proofs.lemmas.List.{get_or-map, get_or-replicate, length-map}
use Rattle.std.proofs.lemmas.List.Sums.{sum_by-cons}
use Rattle.cluster_admin.specs.Phases.{closed_by}
use Rattle.plan_language.specs.declared.plan_command.PlanCommand.{PlanCommand}
use Rattle.plan_semantics.specs.Plans.{Legal, part, slot_named}
use Rattle.plan_changes.specs.Opening.{IsMostCounted, IsMostOpen, OpenAreCounted, counted_at, is_open, left_after}
use Rattle.plan_changes.specs.Opening.{lefts_after, lefts_of, no_lefts, open_at, phase_behind}
use Rattle.plan_changes.proofs.Marked.{are_marks}
use Rattle.plan_changes.proofs.Opened.{none_is, none_wide}
use Rattle.plan_changes.proofs.PhasesBehind.{is_open_behind}

left_named : (n : ℕ) (c : PlanCommand) (lefts : List ℕ) (s : ℕ) (rest : List PlanCommand) → s < length lefts
    → fold (left_after n) (get_or (lefts_after n lefts c) s 0) rest
    ≡ fold (left_after n) (get_or lefts s 0) (cond (eqb (slot_named c) s) (c ∷ rest) rest)
left_named n c lefts s rest lt =
    elim (cases_eq (slot_named c) s) [
      | inl e ↦
          let new : ℕ = left_after n (get_or lefts (slot_named c) 0) c in
          let here : slot_named c < length lefts = subst (λ (k : ℕ). k < length lefts) (sym e) lt in
          let now : get_or (set lefts (slot_named c) new) s 0 ≡ new =
          ap (λ k. get_or (set lefts (slot_named c) new) k 0) (sym e)
          ∙ get_or-set_same lefts (slot_named c) new 0 here in
          ap (λ k. fold (left_after n) k rest) (now ∙ ap (λ k. left_after n (get_or lefts k 0) c) e)
          ∙ sym (ap (λ b. fold (left_after n) (get_or lefts s 0) (cond b (c ∷ rest) rest)) (eq-eqb (slot_named c) s e))
      | inr ne ↦
          let new : ℕ = left_after n (get_or lefts (slot_named c) 0) c in
          ap (λ k. fold (left_after n) k rest)
          (get_or-set_other lefts (slot_named c) s new 0 (λ q. ne (sym q)))
          ∙ sym (ap (λ b. fold (left_after n) (get_or lefts s 0) (cond b (c ∷ rest) rest)) (ne_eqb (slot_named c) s ne))
    ]

lefts_named : (n : ℕ) (plan : List PlanCommand) (lefts : List ℕ) (s : ℕ) → s < length lefts
    → get_or (fold (lefts_after n) lefts plan) s 0 ≡ fold (left_after n) (get_or lefts s 0) (part plan s)
lefts_named n [] lefts s lt = refl
lefts_named n (c ∷ plan) lefts s lt =
    let new : ℕ = left_after n (get_or lefts (slot_named c) 0) c in
    let same : length (lefts_after n lefts c) ≡ length lefts = length-set lefts (slot_named c) new in
    lefts_named n plan (lefts_after n lefts c) s (omega (arith, same, lt)) ∙ left_named n c lefts s (part plan s) lt

lefts_width : (n : ℕ) (plan : List PlanCommand) (lefts : List ℕ)
    → length (fold (lefts_after n) lefts plan) ≡ length lefts
lefts_width n [] lefts = refl
lefts_width n (c ∷ plan) lefts =
    lefts_width n plan (lefts_after n lefts c)
    ∙ length-set lefts (slot_named c) (left_after n (get_or lefts (slot_named c) 0) c)

count_map : (test : ℕ → Bool) (ks : List ℕ) → count_by test ks ≡ count_by (λ b. b) (map test ks)
count_map test [] = refl
count_map test (k ∷ ks) =
    sum_by-cons (λ j. cond (test j) 1 0) k ks ∙ ap (λ (m : ℕ). cond (test k) 1 0 + m) (count_map test ks)
    ∙ sym (sum_by-cons (λ (b : Bool). cond b 1 0) (test k) (map test ks))

module _ (v n : ℕ) (plan : List PlanCommand) (owners : List ℕ) (legal : Legal v plan (closed_by owners) n) where
  lefts_at : (place s : ℕ) → s < 16384
      → get_or (lefts_of n (take place plan)) s 0 ≡ fold (left_after n) 0 (part (take place plan) s)
  lefts_at place s lt =
      lefts_named n (take place plan) no_lefts s (omega (arith, none_wide, lt))
      ∙ ap (λ k. fold (left_after n) k (part (take place plan) s))
      (ap (λ l. get_or l s 0) none_is ∙ get_or-replicate {A = ℕ} 16384 s 0 0 lt)

  open_counts : (place : ℕ) → counted_at n plan place ≡ open_at n plan owners place
  open_counts place =
      let wide : length (lefts_of n (take place plan)) ≡ 16384 =
      lefts_width n (take place plan) no_lefts ∙ none_wide in
      count_map (λ k. not (eqb k 0)) (lefts_of n (take place plan))
      ∙ ap (count_by (λ b. b))
      (are_marks (λ s. is_open (phase_behind n (take place plan) owners s))
      (map (λ k. not (eqb k 0)) (lefts_of n (take place plan)))
      (length-map (lefts_of n (take place plan)) (λ k. not (eqb k 0)) ∙ wide)
      (λ s lt. get_or-map (λ k. not (eqb k 0)) (lefts_of n (take place plan)) s 0 false (omega (arith, wide, lt))
      ∙ ap (λ k. not (eqb k 0)) (lefts_at place s lt)
      ∙ sym (is_open_behind v n plan owners legal place s)))

  pub most_by_phases : (most : ℕ) → IsMostCounted n plan most → IsMostOpen n plan owners most
  most_by_phases most h = (
    λ place le. subst (λ k. k ≤ most) (open_counts place) (h.0 place le),
    (h.1.0, h.1.1, h.1.2 ∙ open_counts h.1.0),
  )

pub open_are_counted : OpenAreCounted
open_are_counted v n plan owners legal place = open_counts v n plan owners legal place
