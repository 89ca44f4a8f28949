-- The owners in the end, from the first command on.
use Rattle.std.specs.Prelude.{◌≡◌, ℕ, ◌<◌, List, fold, length, slice_set}
use Rattle.std.specs.List.{AllByRecursion}
use Rattle.cluster_admin.specs.Phases.{closed_by}
use Rattle.plan_language.specs.declared.plan_command.PlanCommand.{PlanCommand}
use Rattle.plan_language.specs.declared.plan_command.PlanCommand.TheVariants.{SetNode}
use Rattle.plan_semantics.specs.Plans.{IsFinal, Legal}

-- the owners after the command
abbrev pub told : List ℕ → PlanCommand → List ℕ
told owners (SetNode s m at) = slice_set owners s m
told owners c = owners

unfoldable pub owners_after : List PlanCommand → List ℕ → List ℕ
owners_after plan owners = fold told owners plan

-- each slot has the owner that it was told last, or the one before
abbrev pub OwnersAreFinal : Type 0
OwnersAreFinal = (plan : List PlanCommand) (owners : List ℕ) → length owners ≡ 16384
    → IsFinal plan (closed_by owners) (owners_after plan owners)

-- an owner that the command tells is one of so many nodes
abbrev pub IsToldBelow : (n : ℕ) → PlanCommand → Type 0
IsToldBelow n (SetNode s m at) = m < n
IsToldBelow n c = Unit {0}

abbrev pub TellsNodes : (n : ℕ) → List PlanCommand → Type 0
TellsNodes n plan = AllByRecursion (IsToldBelow n) plan

abbrev pub LegalTellsNodes : Type 0
LegalTellsNodes = (version n : ℕ) (plan : List PlanCommand) (owners : List ℕ)
    → Legal version plan (closed_by owners) n → TellsNodes n plan
