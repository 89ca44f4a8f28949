-- How a total is shared out among nodes.
use Rattle.std.specs.Prelude.{ℕ, ◌+◌, ◌-◌, ◌*◌, ◌/◌, cond, List, ◌==◌}
use Rattle.reshard_planner.specs.Sums.{sum_below}
use Rattle.plan_semantics.specs.Plans.{among}
use Rattle.reshard_planner.specs.Holding.{held}

-- The share of node i where n nodes share `total` by weight: the total is laid along all weights, and node i has what
-- lies along its own. Both ends are rounded down after `half` is added to what is divided
abbrev pub share : (total half : ℕ) → (weight : ℕ → ℕ) → (n i : ℕ) → ℕ
share total half weight n i =
    (total * (sum_below weight i + weight i) + half) / sum_below weight n
    - (total * sum_below weight i + half) / sum_below weight n

-- a source weighs as many slots as it holds, and another node nothing
abbrev pub source_weight : (owners sources : List ℕ) → (node : ℕ) → ℕ
source_weight owners sources node = cond (among node sources) (held owners node) 0

-- how many slots all sources hold
abbrev pub sources_hold : (owners sources : List ℕ) → (n : ℕ) → ℕ
sources_hold owners sources n = sum_below (source_weight owners sources) n

-- how many of `count` slots the node gives to the target: floor(count*(P+h)/H) - floor(count*P/H), where H is what
-- all sources hold, P what those before this one do, and h its own
abbrev pub source_gives : (owners sources : List ℕ) → (n count node : ℕ) → ℕ
source_gives owners sources n count node = share count 0 (source_weight owners sources) n node

-- the target takes all of them
abbrev pub target_takes : (target count node : ℕ) → ℕ
target_takes target count node = cond (node == target) count 0
