-- What the nodes hold adds up to all slots.
use Rattle.std.proofs.Common.{◌≡◌, ℕ, zero, suc, ◌+◌, ◌<◌, true, false, cond, List, [], ◌∷◌, length, map, nat_eq, ap, refl, sym, ◌∙◌, add-one, arith}
use Rattle.std.proofs.lemmas.Bool.Decides.{nat_tests}
use Rattle.std.proofs.lemmas.List.Elements.{recursion_from_All}
use Rattle.std.proofs.lemmas.List.FromFn.{sum_by-map-range_with_len_more}
use Rattle.std.specs.List.{AllByRecursion, range_with_len, sum_by}
use Rattle.plan_outlines.specs.Nodes.{NodesHoldAllSlots, change_of_node, held}

abbrev sum_to : (ℕ → ℕ) → ℕ → ℕ
sum_to w zero = 0
sum_to w (suc n) = sum_to w n + w n

sum_is : {X : Type 0} (g : X → ℕ) (f : ℕ → X) (n : ℕ) → sum_by g (map f (range_with_len 0 n)) ≡ sum_to (λ k. g (f k)) n
sum_is g f zero = refl
sum_is g f (suc n) =
    ap (λ k. sum_by g (map f (range_with_len 0 k))) (sym (add-one n)) ∙ sum_by-map-range_with_len_more g f 0 n n (omega arith)
    ∙ ap (λ k. k + g (f n)) (sum_is g f n)

none : (n : ℕ) → sum_to (held []) n ≡ 0
none zero = refl
none (suc n) = let h : sum_to (held []) n ≡ 0 = none n in omega arith

parts : (o : ℕ) (os : List ℕ) (n : ℕ) → sum_to (held (o ∷ os)) n ≡ sum_to (λ k. cond (nat_eq o k) 1 0) n + sum_to (held os) n
parts o os zero = refl
parts o os (suc n) = let h = parts o os n in omega (arith, h)

past : (o n : ℕ) → n < o + 1 → sum_to (λ k. cond (nat_eq o k) 1 0) n ≡ 0
past o zero lt = refl
past o (suc n) lt =
    let h = past o n (omega arith) in
    let other : nat_eq o n ≡ false = grind (arith, nat_tests) in
    let zero_here : cond {A = ℕ} (nat_eq o n) 1 0 ≡ 0 = ap (λ b. cond {A = ℕ} b 1 0) other in
    omega (arith, h, zero_here)

one : (o n : ℕ) → o < n → sum_to (λ k. cond (nat_eq o k) 1 0) n ≡ 1
one o zero lt = absurd (omega arith)
one o (suc n) lt = elim (nat_eq o n) as (λ b. nat_eq o n ≡ b → sum_to (λ k. cond (nat_eq o k) 1 0) n + cond b 1 0 ≡ 1) [
  | true ↦ λ e.
      let same : o ≡ n = grind (arith, nat_tests) in
      let h = past o n (omega arith) in
      omega (arith, h)
  | false ↦ λ e.
      let less : o < n = grind (arith, nat_tests) in
      let h = one o n less in
      omega (arith, h)
] refl

all_held : (n : ℕ) (os : List ℕ) → AllByRecursion (λ o. o < n) os → sum_to (held os) n ≡ length os
all_held n [] h = none n
all_held n (o ∷ os) h =
    let a = parts o os n in
    let b = one o n h.0 in
    let c = all_held n os h.1 in
    omega (arith, a, b, c)

pub nodes_hold : NodesHoldAllSlots
nodes_hold n before after b a =
    (sum_is (λ c. c.before) (change_of_node before after) n ∙ all_held n before (recursion_from_All (λ o. o < n) before b), sum_is (λ c. c.after) (change_of_node before after) n ∙ all_held n after (recursion_from_All (λ o. o < n) after a))
