-- Commands that can be sent to a cluster of n nodes.
use Rattle.std.specs.Prelude.{ℕ, ◌<◌, List, [], ◌∷◌, Option, Some, None}
use Rattle.cluster_admin.specs.Keys.{Key}
use Rattle.cluster_admin.specs.Commands.{AreMovable}
pub use Rattle.plan_language.specs.Lines.{HasBatch}
use Rattle.plan_language.specs.declared.plan_command.PlanCommand.{PlanCommand}
use Rattle.plan_language.specs.declared.plan_command.PlanCommand.TheVariants as planned

-- the node that the command goes to
abbrev pub is_at : PlanCommand → ℕ
is_at (planned.Importing s m at) = at
is_at (planned.Migrating s m at) = at
is_at (planned.Drain s m t b) = m
is_at (planned.SetNode s m at) = at
is_at (planned.Stable s at) = at

abbrev pub AreSound : ℕ → List PlanCommand → Type 0
AreSound n [] = Unit {0}
AreSound n (o ∷ os) = (is_at o < n) × HasBatch o × AreSound n os

-- keys that were listed can be named by a MIGRATE
abbrev pub MayMove : Option (List Key) → Type 0
MayMove None = Unit {0}
MayMove (Some ks) = AreMovable ks
