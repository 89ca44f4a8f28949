-- How many slots each node is to hold.
use Rattle.std.specs.Prelude.{◌≡◌, ℕ, zero, suc, ◌+◌, ◌-◌, ◌*◌, ◌/◌}
use Rattle.std.specs.Prelude.{◌<◌, Bool, false, ◌||◌, cond, List, nat_lt, slice_index}
use Rattle.reshard_planner.specs.Sums.{sum_below}
use Rattle.reshard_planner.specs.Holding.{held}
use Rattle.reshard_planner.specs.Shares.{share}

-- the nodes that hold slots take part, and with `use_empty` all nodes: another node weighs nothing
abbrev pub node_weight : (owners weights : List ℕ) → (use_empty : Bool) → (node : ℕ) → ℕ
node_weight owners weights use_empty node =
    cond (use_empty || nat_lt 0 (held owners node)) (slice_index weights node) 0

-- W: what all nodes that take part weigh
abbrev pub whole_weight : (owners weights : List ℕ) → (use_empty : Bool) → (n : ℕ) → ℕ
whole_weight owners weights use_empty n = sum_below (node_weight owners weights use_empty) n

-- floor((16384*(P+w) + floor(W/2))/W) - floor((16384*P + floor(W/2))/W), where P is what the nodes before this one
-- weigh, and w its own weight
abbrev pub quota : (owners weights : List ℕ) → (use_empty : Bool) → (n node : ℕ) → ℕ
quota owners weights use_empty n node =
    share 16384 (whole_weight owners weights use_empty n / 2) (node_weight owners weights use_empty) n node

-- what a node holds is off its quota by more than so many per cent
abbrev pub is_beyond : (threshold held quota : ℕ) → Bool
is_beyond threshold held quota = nat_lt (threshold * quota) (100 * ((held - quota) + (quota - held)))

-- one of the first n numbers passes
abbrev pub any_below : (ℕ → Bool) → ℕ → Bool
any_below test zero = false
any_below test (suc n) = any_below test n || test n

-- some node is beyond the threshold
abbrev pub is_unbalanced : (threshold : ℕ) → (held quota : ℕ → ℕ) → (n : ℕ) → Bool
is_unbalanced threshold held quota n = any_below (λ i. is_beyond threshold (held i) (quota i)) n

-- a donor gives what it holds above its quota, and a receiver takes what it lacks
abbrev pub surplus : (held quota : ℕ → ℕ) → (node : ℕ) → ℕ
surplus held quota node = held node - quota node

abbrev pub shortage : (held quota : ℕ → ℕ) → (node : ℕ) → ℕ
shortage held quota node = quota node - held node

-- each of n nodes holds its quota
abbrev pub MeetsQuotas : (n : ℕ) → (quota : ℕ → ℕ) → List ℕ → Type 0
MeetsQuotas n quota owners = (node : ℕ) → node < n → held owners node ≡ quota node
