-- Nodes that a plan empties.
use Rattle.std.specs.Prelude.{◌≡◌, ◌↔◌, ℕ, ◌+◌, ◌-◌, ◌<◌, Bool, true, false, cond, ◌==◌, ◌&&◌, min, List, [], ◌∷◌}
use Rattle.std.specs.Prelude.{count_by, fold, length, slice_set, take}
use Rattle.cluster_admin.specs.Phases.{closed_by}
use Rattle.plan_language.specs.declared.plan_command.PlanCommand.{PlanCommand}
use Rattle.plan_language.specs.declared.plan_command.PlanCommand.TheVariants.{Drain}
use Rattle.plan_semantics.specs.Plans.{Legal}

-- the command takes the last of the node's slots, which are so many
abbrev pub empties : (node : ℕ) → PlanCommand → (slots : ℕ) → Bool
empties n (Drain s m t b) k = (m == n) && (k == 1)
empties n c k = false

-- how many slots the node has after the command, as a number of 32 bits
abbrev pub left_after : (node : ℕ) → PlanCommand → (slots : ℕ) → ℕ
left_after n (Drain s m t b) k = cond (m == n) (k - 1) (cond (t == n) (min (k + 1) 4294967295) k)
left_after n c k = k

-- at some time of the plan the node, which has so many slots before it, has none left
abbrev pub is_emptied : (node : ℕ) → List PlanCommand → (slots : ℕ) → Bool
is_emptied n [] k = false
is_emptied n (c ∷ plan) k = cond (empties n c k) true (is_emptied n plan (left_after n c k))

-- ---- what that means, by the nodes at which the slots' keys lie

-- a drain brings the keys of its slot to the target
abbrev pub homes_after : List ℕ → PlanCommand → List ℕ
homes_after homes (Drain s m t b) = slice_set homes s t
homes_after homes c = homes

-- how many slots have their keys at the node after the first commands of the plan, so many, where these were their
-- homes before
abbrev pub held_at : (node : ℕ) → (homes : List ℕ) → List PlanCommand → (place : ℕ) → ℕ
held_at n homes plan place = count_by (λ home. home == n) (fold homes_after homes (take place plan))

-- after some command the node holds no slot, and held one before it
abbrev pub LosesLast : (node : ℕ) → (homes : List ℕ) → List PlanCommand → Type 0
LosesLast n homes plan = (place : ℕ) × (place < length plan) × (0 < held_at n homes plan place)
    × (held_at n homes plan (place + 1) ≡ 0)

-- for each legal plan from closed slots, and each node
abbrev pub EmptiedLoseLast : Type 0
EmptiedLoseLast = (version nodes : ℕ) (plan : List PlanCommand) (owners : List ℕ) (node : ℕ) → length owners ≡ 16384
    → Legal version plan (closed_by owners) nodes
    → (is_emptied node plan (count_by (λ owner. owner == node) owners) ≡ true) ↔ LosesLast node owners plan
