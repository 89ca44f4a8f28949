-- The next command of a plan, and what its reply makes of the plan.
use Rattle.std.specs.Prelude.{ℕ, Bool, true, false, List, [], ◌∷◌, Option, Some, None}
use Rattle.plan_language.specs.declared.plan_command.PlanCommand.{PlanCommand}
use Rattle.plan_language.specs.declared.plan_command.PlanCommand.TheVariants as planned
use Rattle.cluster_admin.specs.declared.admin.AdminCommand.{AdminCommand}
use Rattle.cluster_admin.specs.declared.admin.AdminCommand.TheVariants.{Importing, Migrating, SetNode, Stable, KeysIn}
use Rattle.cluster_admin.specs.declared.admin.AdminCommand.TheVariants.{Migrate}
use Rattle.cluster_admin.specs.Keys.{Key}
use Rattle.plan_semantics.specs.declared.order.Order.{Order}

abbrev pub is_drain : PlanCommand → Bool
is_drain (planned.Drain s m t b) = true
is_drain command = false

-- the command that continues
abbrev pub sending : List PlanCommand → Option (List Key) → Option Order
sending [] listed = None
sending (planned.Importing s m at ∷ rest) listed = Some (record { node = at; command = Importing s m })
sending (planned.Migrating s m at ∷ rest) listed = Some (record { node = at; command = Migrating s m })
sending (planned.SetNode s m at ∷ rest) listed = Some (record { node = at; command = SetNode s m })
sending (planned.Stable s at ∷ rest) listed = Some (record { node = at; command = Stable s })
sending (planned.Drain s m t b ∷ rest) None = Some (record { node = m; command = KeysIn s b })
sending (planned.Drain s m t b ∷ rest) (Some ks) = Some (record { node = m; command = Migrate ks t })

abbrev pub listed_in : AdminCommand → Option (List Key)
listed_in (Migrate ks t) = Some ks
listed_in command = None
