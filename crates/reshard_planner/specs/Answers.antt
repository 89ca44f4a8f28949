-- What the planners answer.
use Rattle.std.specs.Prelude.{◌≡◌, ℕ, Bool, true, false, ◌==◌, cond, nat_lt, List, [], ◌∷◌, Result, Ok, Err, IfOk}
use Rattle.byte_texts.specs.Outcomes.{UnlessMemory}
use Rattle.key_slots.specs.Owners.{Owners}
use Rattle.plan_language.specs.PlanView.{PlanView}
use Rattle.plan_language.specs.declared.line.Line.{Line}
use Rattle.plan_semantics.specs.Plans.{among}
use Rattle.reshard_planner.specs.declared.planner_fault.PlannerFault.{PlannerFault}
use Rattle.reshard_planner.specs.declared.planner_fault.PlannerFault.TheVariants.{NoSource, TooMany, TargetIsSource}
use Rattle.reshard_planner.specs.declared.planner_fault.PlannerFault.TheVariants.{NoTarget, NoWeight}
use Rattle.reshard_planner.specs.Blank.{names_for, plan_for}
use Rattle.reshard_planner.specs.Draining.{are_mixed, drain_quota}
use Rattle.reshard_planner.specs.Faults.{is_memory}
use Rattle.reshard_planner.specs.Grouping.{plan_of}
use Rattle.reshard_planner.specs.Holding.{held}
use Rattle.reshard_planner.specs.Quotas.{quota, whole_weight, is_unbalanced, surplus, shortage}
use Rattle.reshard_planner.specs.Shares.{sources_hold, source_gives, target_takes}
use Rattle.reshard_planner.specs.Transfers.{transfers}

-- planners write by the rules of version 1
abbrev pub first_version : (nodes : ℕ) → List Line → PlanView
first_version n lines = plan_for 1 n lines

abbrev pub Answer : Type 0
Answer = Result (List Line) PlannerFault

abbrev pub is_nothing : List ℕ → Bool
is_nothing [] = true
is_nothing (x ∷ xs) = false

-- so many slots of the sources go to the target
abbrev pub resharded : Owners → (sources : List ℕ) → (target count batch : ℕ) → List Line
resharded o sources target count batch =
    plan_of batch
    (transfers o.owners (source_gives o.owners sources o.nodes count) (target_takes target count) o.nodes)

abbrev pub reshard_answer : Owners → (sources : List ℕ) → (target count batch : ℕ) → Answer
reshard_answer o sources target count batch =
    cond (is_nothing sources) (Err NoSource)
    (cond (nat_lt (sources_hold o.owners sources o.nodes) count) (Err TooMany)
    (cond (among target sources) (Err TargetIsSource)
    (Ok (resharded o sources target count batch))))

-- each donor gives its surplus, and each receiver takes its shortage
abbrev pub rebalanced : Owners → (quota : ℕ → ℕ) → (batch : ℕ) → List Line
rebalanced o quota batch =
    plan_of batch (transfers o.owners (surplus (held o.owners) quota) (shortage (held o.owners) quota) o.nodes)

-- all slots of the sources go to the targets
abbrev pub drain_answer : Owners → (sources targets : List ℕ) → (batch : ℕ) → Answer
drain_answer o sources targets batch =
    cond (is_nothing sources) (Err NoSource)
    (cond (is_nothing targets) (Err NoTarget)
    (cond (are_mixed sources targets) (Err TargetIsSource)
    (Ok (rebalanced o (drain_quota o sources targets) batch))))

-- the quota of each node
abbrev pub quotas : Owners → (weights : List ℕ) → (use_empty : Bool) → ℕ → ℕ
quotas o weights use_empty = quota o.owners weights use_empty o.nodes

abbrev pub is_off : Owners → (weights : List ℕ) → (threshold : ℕ) → (use_empty : Bool) → Bool
is_off o weights threshold use_empty =
    is_unbalanced threshold (held o.owners) (quotas o weights use_empty) o.nodes

abbrev pub rebalance_answer : Owners → (weights : List ℕ) → (threshold : ℕ) → (use_empty : Bool) → (batch : ℕ) → Answer
rebalance_answer o weights threshold use_empty batch =
    cond (whole_weight o.owners weights use_empty o.nodes == 0) (Err NoWeight)
    (Ok (cond (is_off o weights threshold use_empty) (rebalanced o (quotas o weights use_empty) batch) []))

-- what is given are these lines by the rules of version 1, for so many nodes, or out of memory in place of a plan
abbrev pub Gives : (nodes : ℕ) → Result PlanView PlannerFault → Answer → Type 0
Gives n result wanted =
    IfOk result (λ plan. (plan.version ≡ 1) × (plan.names ≡ names_for n))
    × UnlessMemory is_memory (λ plan. plan.lines) wanted result
