-- What the runner's own word for a reply stands for.
use Rattle.std.specs.Prelude.{◌≡◌, ◌⊎◌, true, List, ◌∷◌, Option, Some, None}
use Rattle.plan_language.specs.declared.plan_command.PlanCommand.{PlanCommand}
use Rattle.plan_runner.specs.PlanStates.{Left as Rest}
use Rattle.plan_semantics.specs.Orders.{is_drain}
use Rattle.plan_runner.specs.Sound.{MayMove}
use Rattle.plan_runner.specs.declared.left.Left.{Left}
use Rattle.plan_runner.specs.declared.left.Left.TheVariants.{Next, Again, Strange}

abbrev pub left_of : Left → PlanCommand → List PlanCommand → Option Rest
left_of Next o rest = Some (rest, None)
left_of (Again listed) o rest = Some (o ∷ rest, listed)
left_of Strange o rest = None

-- only a drain continues with keys listed
abbrev pub KeepsListing : Left → PlanCommand → Type 0
KeepsListing Next o = Unit {0}
KeepsListing (Again listed) o = ((listed ≡ None) ⊎ (is_drain o ≡ true)) × MayMove listed
KeepsListing Strange o = Unit {0}
