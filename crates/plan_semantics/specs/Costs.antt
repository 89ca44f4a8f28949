-- What a plan costs: so many calls of the administrator.
use Rattle.std.specs.Prelude.{ℕ, ◌+◌, ◌*◌, ◌/◌, ◌-◌, cond, ◌==◌, List, [], ◌∷◌, slice_index}
use Rattle.plan_language.specs.declared.plan_command.PlanCommand.{PlanCommand}
use Rattle.plan_language.specs.declared.plan_command.PlanCommand.TheVariants as planned

-- so many batches of at most b hold h keys: h / b, rounded up
abbrev pub rounds : ℕ → ℕ → ℕ
rounds b h = (h + (b - 1)) / b

-- how many keys of each slot its source held when its migrating mark was set: a list for each slot, in the order of
-- its marks
abbrev pub Counts : Type 0
Counts = ℕ → List ℕ

-- one more for the slot s
abbrev pub one_more : (ℕ → ℕ) → ℕ → ℕ → ℕ
one_more passed s t = cond (t == s) (1 + passed t) (passed t)

-- What the commands cost: a SETSLOT is one call; a drain of k keys takes a listing and a MIGRATE for each batch, and an
-- empty listing. `passed` counts the drains of each slot before these commands; a drain whose slot is not marked yet
-- counts no key
abbrev pub cost : (passed : ℕ → ℕ) → Counts → List PlanCommand → ℕ
cost passed κ [] = 0
cost passed κ (planned.Drain s m t b ∷ plan) =
    (2 * rounds b (slice_index (κ s) (passed s)) + 1) + cost (one_more passed s) κ plan
cost passed κ (c ∷ plan) = 1 + cost passed κ plan

abbrev pub none_passed : ℕ → ℕ
none_passed s = 0

abbrev pub plan_cost : Counts → List PlanCommand → ℕ
plan_cost κ plan = cost none_passed κ plan
