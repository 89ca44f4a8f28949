-- How many keys the batches have.
use Rattle.std.specs.Prelude.{◌≡◌, ◌<◌, ◌≤◌, ℕ, min, max, All, Contains, List, [], ◌∷◌, fold, length}
use Rattle.std.specs.Prelude.{Option, None, Some, unwrap_or}
use Rattle.std.specs.List.{flat_map}
use Rattle.plan_language.specs.declared.plan_command.PlanCommand.{PlanCommand}
use Rattle.plan_language.specs.declared.plan_command.PlanCommand.TheVariants.{Drain}

abbrev pub least_with : Option ℕ → PlanCommand → Option ℕ
least_with None (Drain s m t b) = Some b
least_with (Some k) (Drain s m t b) = Some (min k b)
least_with k c = k

abbrev pub most_with : ℕ → PlanCommand → ℕ
most_with k (Drain s m t b) = max k b
most_with k c = k

-- the least batch of a drain, and 0 where nothing is drained
abbrev pub least_batch : List PlanCommand → ℕ
least_batch plan = unwrap_or (fold least_with None plan) 0

-- and the most
abbrev pub most_batch : List PlanCommand → ℕ
most_batch plan = fold most_with 0 plan

-- ---- what these are, in other words

-- the batch of a drain
abbrev pub batch_of : PlanCommand → List ℕ
batch_of (Drain s m t b) = b ∷ []
batch_of c = []

-- the batches of all drains
abbrev pub batches_of : List PlanCommand → List ℕ
batches_of plan = flat_map batch_of plan

-- the least and the most of some numbers: none is beyond them, and each is one of the numbers; or both are 0, where
-- there are none
pub record AreBounds (bs : List ℕ) (least most : ℕ) : Type 0 where
  pub between : All (λ b. (least ≤ b) × (b ≤ most)) bs
  pub least_is : 0 < length bs → Contains bs least
  pub most_is : 0 < length bs → Contains bs most
  pub none : length bs ≡ 0 → (least ≡ 0) × (most ≡ 0)

abbrev pub BatchesHaveBounds : Type 0
BatchesHaveBounds = (plan : List PlanCommand) → AreBounds (batches_of plan) (least_batch plan) (most_batch plan)
