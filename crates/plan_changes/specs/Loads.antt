-- What a plan will move, by the keys that each slot has before it begins.
use Rattle.std.specs.Prelude.{ℕ, ◌+◌, ◌*◌, min, List, [], ◌∷◌, slice_index_or}
use Rattle.plan_language.specs.declared.plan_command.PlanCommand.{PlanCommand}
use Rattle.plan_language.specs.declared.plan_command.PlanCommand.TheVariants.{Drain}
use Rattle.plan_semantics.specs.Costs.{rounds}
use Rattle.plan_changes.specs.declared.load.PlanLoad.{PlanLoad}

-- a slot's keys, by a list of them for all slots
abbrev pub keys_at : List ℕ → (slot : ℕ) → ℕ
keys_at keys s = slice_index_or keys s 0

-- each drain is a move
abbrev pub moves_in : List PlanCommand → ℕ
moves_in [] = 0
moves_in (Drain s m t b ∷ plan) = 1 + moves_in plan
moves_in (c ∷ plan) = moves_in plan

-- a slot's keys move with each of its moves
abbrev pub keys_in : (keys : List ℕ) → List PlanCommand → ℕ
keys_in ks [] = 0
keys_in ks (Drain s m t b ∷ plan) = keys_at ks s + keys_in ks plan
keys_in ks (c ∷ plan) = keys_in ks plan

-- a drain takes a listing and a MIGRATE for each batch, and an empty listing
abbrev pub commands_in : (keys : List ℕ) → List PlanCommand → ℕ
commands_in ks [] = 0
commands_in ks (Drain s m t b ∷ plan) = (2 * rounds b (keys_at ks s) + 1) + commands_in ks plan
commands_in ks (c ∷ plan) = 1 + commands_in ks plan

-- a number of 64 bits, which is the greatest one where it would be more
abbrev pub most : ℕ → ℕ
most n = min n 18446744073709551615

abbrev pub load_of : (keys : List ℕ) → List PlanCommand → PlanLoad
load_of ks plan = record {
  moves = most (moves_in plan);
  keys = most (keys_in ks plan);
  commands = most (commands_in ks plan);
}
