-- What is remarked of a plan on standard error: that there is nothing to move, and why; or how many slots there are.
use Rattle.std.specs.Prelude.{ℕ, zero, suc, Bool, false, cond, not, ◌&&◌, ◌||◌, ◌==◌, List, [], ◌∷◌, ◌++◌, codes, decimal}
use Rattle.std.specs.Prelude.{Ok, Err}
use Rattle.key_slots.specs.Owners.{Owners}
use Rattle.reshard_planner.specs.Answers.{Answer}
use Rattle.reshard_planner.specs.declared.planner_fault.PlannerFault.TheVariants as fault
use Rattle.cluster_cli.specs.SlotCounts.{owned_by}
use Rattle.cluster_cli.specs.declared.remarks.Outcome.{Outcome}
use Rattle.cluster_cli.specs.declared.remarks.Outcome.TheVariants as outcome

-- whether the planner's answer moves slots
abbrev pub outcome_of : Answer → Outcome
outcome_of (Ok []) = outcome.Nothing
outcome_of (Ok (line ∷ lines)) = outcome.Moves
outcome_of (Err fault.TooMany) = outcome.TooMany
outcome_of (Err other) = outcome.Refused

-- of so many slots that go to a node
abbrev pub reshard_remark : Outcome → (sources owners : List ℕ) → List ℕ
reshard_remark outcome.Nothing sources owners = codes "nothing to move: --slots is 0\n"
reshard_remark outcome.TooMany sources owners =
    codes "slots of the nodes of --from: " ++ (decimal (owned_by sources owners) ++ codes "\n")
reshard_remark other sources owners = []

-- of nodes that are drained
abbrev pub drain_remark : Outcome → List ℕ
drain_remark outcome.Nothing = codes "nothing to move: the nodes of --from own no slots\n"
drain_remark other = []

-- one of the nodes below this one owns no slot
abbrev pub has_empty : ℕ → (owners : List ℕ) → Bool
has_empty zero owners = false
has_empty (suc k) owners = has_empty k owners || (owned_by (k ∷ []) owners == 0)

-- of shares by weight: nodes without slots take no part unless that is asked for
abbrev pub rebalance_remark : Outcome → (use_empty : Bool) → Owners → List ℕ
rebalance_remark outcome.Nothing use_empty o =
    cond (not use_empty && has_empty o.nodes o.owners)
    (codes "nothing to move: each node that has slots has its share; give --use-empty for the others\n")
    (codes "nothing to move: each node has its share, or is within --threshold of it\n")
rebalance_remark other use_empty o = []
