-- What the planners' plans amount to.
use Rattle.std.specs.Prelude.{◌≡◌, ℕ, ◌≤◌, ◌<◌, Bool, true, List, [], ◌∷◌, length, Ok, Option, None, Some}
use Rattle.std.specs.List.{All}
use Rattle.key_slots.specs.Owners.{Owners, IsTable}
use Rattle.node_names.specs.Names.{AreNames, Names, has_node}
use Rattle.plan_language.specs.declared.line.Line.{Line}
use Rattle.plan_language.specs.declared.plan_command.PlanCommand.{PlanCommand}
use Rattle.plan_language.specs.Lines.{plan_commands}
use Rattle.plan_language.specs.PlanView.{PlanView}
use Rattle.plan_language.specs.Texts.{any_plan_of_text, plan_of_text, plan_text}
use Rattle.reshard_planner.specs.Sums.{sum_below}
use Rattle.cluster_admin.specs.Phases.{closed_by}
use Rattle.plan_semantics.specs.Plans.{part, Legal, IsFinal}
use Rattle.reshard_planner.specs.Answers.{drain_answer, reshard_answer, rebalance_answer, quotas, is_off}
use Rattle.reshard_planner.specs.Draining.{IsDrain}
use Rattle.reshard_planner.specs.Holding.{differing}
use Rattle.reshard_planner.specs.Quotas.{MeetsQuotas}

-- one where there is something
abbrev pub one_if_some : List PlanCommand → ℕ
one_if_some [] = 0
one_if_some (command ∷ commands) = 1

-- how many slots a plan moves: those that a command of it names
abbrev pub moved_count : List PlanCommand → ℕ
moved_count plan = sum_below (λ s. one_if_some (part plan s)) 16384

-- the plan of these lines by the rules of version 1
abbrev pub plan_with : Option Names → List Line → PlanView
plan_with names lines = record { version = 1; names = names; lines = lines }

-- These lines are legal by the rules of version 1. What the plan is written as is read back as the plan: without names
-- where there are at most eight nodes, and with the names of all nodes
pub record IsLegalText (o : Owners) (lines : List Line) : Type 0 where
  pub legal : Legal 1 (plan_commands o.nodes lines) (closed_by o.owners) o.nodes
  pub read_back : o.nodes ≤ 8 → plan_of_text (plan_text (plan_with None lines)) ≡ Ok (plan_with None lines)
  pub read_back_named : (names : Names) → AreNames names → ((node : ℕ) → node < o.nodes → has_node names node ≡ true)
      → any_plan_of_text (plan_text (plan_with (Some names) lines)) ≡ Ok (plan_with (Some names) lines)

-- in the end each node holds its quota, and no table with which each does differs in fewer slots from the owners
pub record MovesFewest (n : ℕ) (quota : ℕ → ℕ) (owners final : List ℕ) : Type 0 where
  pub meets : MeetsQuotas n quota final
  pub fewest : (other : List ℕ) → length other ≡ length owners → MeetsQuotas n quota other
      → differing owners final ≤ differing owners other

-- whatever table the plan leaves
abbrev pub IsRebalancing : Owners → (quota : ℕ → ℕ) → List Line → Type 0
IsRebalancing o quota lines = (final : List ℕ) → IsFinal (plan_commands o.nodes lines) (closed_by o.owners) final
    → MovesFewest o.nodes quota o.owners final

-- a batch is 1 to 1,000 keys
abbrev pub IsBatch : ℕ → Type 0
IsBatch batch = (1 ≤ batch) × (batch ≤ 1000)

abbrev pub ReshardsAreLegal : Type 0
ReshardsAreLegal = (o : Owners) (sources : List ℕ) (target count batch : ℕ) (lines : List Line)
    → IsTable o → target < o.nodes → IsBatch batch → reshard_answer o sources target count batch ≡ Ok lines
    → IsLegalText o lines

abbrev pub ReshardsMoveAll : Type 0
ReshardsMoveAll = (o : Owners) (sources : List ℕ) (target count batch : ℕ) (lines : List Line)
    → IsTable o → target < o.nodes → IsBatch batch → reshard_answer o sources target count batch ≡ Ok lines
    → moved_count (plan_commands o.nodes lines) ≡ count

abbrev pub RebalancesAreLegal : Type 0
RebalancesAreLegal = (o : Owners) (weights : List ℕ) (threshold : ℕ) (use_empty : Bool) (batch : ℕ) (lines : List Line)
    → IsTable o → IsBatch batch → rebalance_answer o weights threshold use_empty batch ≡ Ok lines
    → IsLegalText o lines

abbrev pub RebalancesMoveFewest : Type 0
RebalancesMoveFewest =
    (o : Owners) (weights : List ℕ) (threshold : ℕ) (use_empty : Bool) (batch : ℕ) (lines : List Line)
    → IsTable o → IsBatch batch → rebalance_answer o weights threshold use_empty batch ≡ Ok lines
    → is_off o weights threshold use_empty ≡ true → IsRebalancing o (quotas o weights use_empty) lines

-- each target is a node
abbrev pub DrainsAreLegal : Type 0
DrainsAreLegal = (o : Owners) (sources targets : List ℕ) (batch : ℕ) (lines : List Line)
    → IsTable o → All (λ t. t < o.nodes) targets → IsBatch batch → drain_answer o sources targets batch ≡ Ok lines
    → IsLegalText o lines

abbrev pub DrainsEmptySources : Type 0
DrainsEmptySources = (o : Owners) (sources targets : List ℕ) (batch : ℕ) (lines : List Line)
    → IsTable o → All (λ t. t < o.nodes) targets → IsBatch batch → drain_answer o sources targets batch ≡ Ok lines
    → IsDrain o sources targets lines
