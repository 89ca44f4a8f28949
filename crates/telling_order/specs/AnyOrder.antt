-- A plan that tells other nodes of a slot's owner in another order.
use Rattle.std.specs.Prelude.{◌≡◌, ◌≢◌, ◌⊎◌, ℕ, List, [], ◌∷◌, ◌++◌, length}
use Rattle.cluster_admin.specs.Phases.{Phase, Phases, IsDistinct, among}
use Rattle.cluster_admin.specs.Phases as phase
use Rattle.plan_language.specs.declared.plan_command.PlanCommand.{PlanCommand}
use Rattle.plan_language.specs.declared.plan_command.PlanCommand.TheVariants as planned
use Rattle.plan_semantics.specs.Costs.{Counts, plan_cost}
use Rattle.plan_semantics.specs.Plans.{IsFinal, Legal, part, tell}

-- the same nodes, each once, in some order
pub record IsReordered (nodes other : List ℕ) : Type 0 where
  pub many : length other ≡ length nodes
  pub distinct : IsDistinct other
  pub same : (m : ℕ) → among m other ≡ among m nodes

-- in this phase the source knows the target
abbrev pub KnowsTarget : Phase → Type 0
KnowsTarget (phase.SourceTold o t left) = Unit {0}
KnowsTarget p = ⊥

-- After these commands the source of the slot was told of the target: the last of them tells it, or another node
-- after it; or the plan began so, and none of them names the slot
abbrev pub IsSourceTold : Phases → List PlanCommand → (s target : ℕ) → Type 0
IsSourceTold phases front s t =
    ((before : List PlanCommand) × (o : ℕ) × (o ≢ t) × (front ≡ before ++ planned.SetNode s t o ∷ []))
    ⊎ ((part front s ≡ []) × KnowsTarget (phases s))

-- once the source of a slot was told, some nodes are told in another order
pub record TellsInAnotherOrder (phases : Phases) (plan other : List PlanCommand) : Type 0 where
  pub s : ℕ
  pub target : ℕ
  pub front : List PlanCommand
  pub back : List PlanCommand
  pub nodes : List ℕ
  pub nodes' : List ℕ
  pub told : IsSourceTold phases front s target
  pub reordered : IsReordered nodes nodes'
  pub is : plan ≡ front ++ (tell s target nodes ++ back)
  pub other_is : other ≡ front ++ (tell s target nodes' ++ back)

-- any number of times, by these plans between the two
abbrev pub TellsInAnyOrder : Phases → List PlanCommand → List (List PlanCommand) → List PlanCommand → Type 0
TellsInAnyOrder phases plan [] other = other ≡ plan
TellsInAnyOrder phases plan (next ∷ more) other =
    TellsInAnotherOrder phases plan next × TellsInAnyOrder phases next more other

abbrev pub StaysLegal : Type 0
StaysLegal = (version n : ℕ) (phases : Phases) (plan other : List PlanCommand) (between : List (List PlanCommand))
    → TellsInAnyOrder phases plan between other → Legal version plan phases n → Legal version other phases n

abbrev pub LeavesTheSameOwners : Type 0
LeavesTheSameOwners = (phases : Phases) (plan other : List PlanCommand) (between : List (List PlanCommand))
    (final : List ℕ) → TellsInAnyOrder phases plan between other → IsFinal plan phases final
    → IsFinal other phases final

abbrev pub CostsTheSame : Type 0
CostsTheSame = (phases : Phases) (plan other : List PlanCommand) (between : List (List PlanCommand)) (counts : Counts)
    → TellsInAnyOrder phases plan between other → plan_cost counts other ≡ plan_cost counts plan
