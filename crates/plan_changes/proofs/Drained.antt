-- How often each slot was drained.
use Rattle.std.proofs.Common.{◌≡◌, ◌≢◌, ℕ, ◌+◌, ◌<◌, ◌≤◌, false, cond, inl, inr, List, [], ◌∷◌, ◌++◌, eqb, get_or, set, length, min, replicate, take, ap, refl, sym, subst, ◌∙◌, arith, eq-eqb, get_or-set_same, get_or-set_other, length-set}
use Rattle.std.specs.List.{count_by}
use Rattle.std.proofs.lemmas.Bool.{cases_eq}
use Rattle.std.proofs.lemmas.Bool.Decides.{nat_tests}
use Rattle.std.proofs.lemmas.List.{get_or-replicate, length-replicate, take_all, take_more}
use Rattle.std.proofs.lemmas.List.Sums.{sum_by_push}
use Rattle.plan_language.specs.declared.plan_command.PlanCommand.{PlanCommand}
use Rattle.plan_language.specs.declared.plan_command.PlanCommand.TheVariants.{Importing, Migrating, Drain, SetNode, Stable}
use Rattle.plan_changes.specs.Drains.{drain_count, drained, drains}

count_on : (cs : List PlanCommand) (i : ℕ) (c : PlanCommand) (s : ℕ) → i < length cs → c ≡ get_or cs i c → drain_count (take (i + 1) cs) s ≡ drain_count (take i cs) s + cond (drains s c) 1 0
count_on cs i c s lt at =
    ap (count_by (drains s)) (take_more cs i c lt) ∙ ap (λ o. count_by (drains s) (take i cs ++ o ∷ [])) (sym at)
    ∙ sum_by_push (λ o. cond (drains s o) 1 0) (take i cs) c

same : (m n : ℕ) → m ≡ min n 2 → m ≡ min (n + 0) 2
same m n e = omega (arith, e)

capped : (m n : ℕ) → m ≡ min n 2 → min (m + 1) 2 ≡ min (n + 1) 2
capped m n e = omega (arith, e)

one_drained : (times : List ℕ) (c : PlanCommand) (s k : ℕ) → s < length times → get_or times s 0 ≡ min k 2 → get_or (drained times c) s 0 ≡ min (k + cond (drains s c) 1 0) 2
one_drained times (Importing x m at) s k lt e = same (get_or times s 0) k e
one_drained times (Migrating x m at) s k lt e = same (get_or times s 0) k e
one_drained times (SetNode x m at) s k lt e = same (get_or times s 0) k e
one_drained times (Stable x at) s k lt e = same (get_or times s 0) k e
one_drained times (Drain x m t b) s k lt e =
    elim (cases_eq x s) [
      | inl q ↦
          let here : x < length times = subst (λ (j : ℕ). j < length times) (sym q) lt in
          let new : ℕ = min (get_or times x 0 + 1) 2 in
          let now : get_or (set times x (min (get_or times x 0 + 1) 2)) s 0 ≡ min (get_or times x 0 + 1) 2 = ap (λ j. get_or (set times x (min (get_or times x 0 + 1) 2)) j 0) (sym q) ∙ get_or-set_same times x (min (get_or times x 0 + 1) 2) 0 here in
          let was : get_or times x 0 ≡ min k 2 = ap (λ j. get_or times j 0) q ∙ e in
          now ∙ capped (get_or times x 0) k was ∙ sym (ap (λ d. min (k + cond d 1 0) 2) (eq-eqb x s q))
      | inr ne ↦
          let other : s ≢ x = λ q. ne (sym q) in
          let now : get_or (set times x (min (get_or times x 0 + 1) 2)) s 0 ≡ get_or times s 0 = get_or-set_other times x s (min (get_or times x 0 + 1) 2) 0 other in
          let test : eqb x s ≡ false = grind (arith, nat_tests) in
          now ∙ same (get_or times s 0) k e ∙ sym (ap (λ d. min (k + cond d 1 0) 2) test)
    ]

drained_length : (times : List ℕ) (c : PlanCommand) → length (drained times c) ≡ length times
drained_length times (Importing x m at) = refl
drained_length times (Migrating x m at) = refl
drained_length times (SetNode x m at) = refl
drained_length times (Stable x at) = refl
drained_length times (Drain x m t b) = length-set times x (min (get_or times x 0 + 1) 2)

pub record Drained (n : ℕ) (times : List ℕ) (cs : List PlanCommand) : Type 0 where
  pub width : length times ≡ n
  pub counts : (s : ℕ) → s < n → get_or times s 0 ≡ min (drain_count cs s) 2

pub drained_none : (n : ℕ) (times : List ℕ) → times ≡ replicate n 0 → Drained n times []
drained_none n times is =
    subst (λ t. Drained n t []) (sym is) (record {
      width = length-replicate {A = ℕ} n 0;
      counts = λ s lt. get_or-replicate {A = ℕ} n s 0 0 lt;
    })

pub drained_more : (n : ℕ) (times new : List ℕ) (cs : List PlanCommand) (i : ℕ) (c : PlanCommand) → i < length cs → c ≡ get_or cs i c → new ≡ drained times c → Drained n times (take i cs) → Drained n new (take (i + 1) cs)
drained_more n times new cs i c lt at is h = record {
  width = ap length is ∙ drained_length times c ∙ h.width;
  counts = λ s ls.
      let inside : s < length times = omega (arith, h.width, ls) in
      ap (λ t. get_or t s 0) is ∙ one_drained times c s (drain_count (take i cs) s) inside (h.counts s ls)
      ∙ ap (λ k. min k 2) (sym (count_on cs i c s lt at));
}

pub drained_all : (n : ℕ) (times : List ℕ) (cs : List PlanCommand) (i : ℕ) → length cs ≤ i → Drained n times (take i cs) → Drained n times cs
drained_all n times cs i past h = subst (Drained n times) (take_all i cs past) h
