-- How many keys each slot has when its move begins, by a run.
use Rattle.std.specs.Prelude.{ℕ, ◌+◌, cond, ◌==◌, List, [], ◌∷◌, ◌++◌, length}
use Rattle.plan_semantics.specs.Plans.{part}
use Rattle.cluster_admin.specs.declared.admin.AdminCommand.TheVariants.{Migrating}
use Rattle.cluster_admin.specs.declared.admin.AdminReply.TheVariants as reply
use Rattle.slot_keyspace.specs.Listing.{keys_of}
use Rattle.cluster_world.specs.Worlds.{World, node_at}
use Rattle.cluster_world.specs.Steps.{after}
use Rattle.cluster_world.specs.declared.event.Event.{Event}
use Rattle.cluster_world.specs.declared.event.Event.TheVariants.{Admin}
use Rattle.plan_language.specs.declared.plan_command.PlanCommand.{PlanCommand}
use Rattle.plan_language.specs.declared.plan_command.PlanCommand.TheVariants as planned
use Rattle.plan_semantics.specs.Costs.{Counts}

-- the counts after one more event: a migrating mark that is set counts the slot's keys at its node
abbrev pub counts_after : Counts → World → Event → Counts
counts_after κ w (Admin n (Migrating s m) reply.Ok) =
    λ t. cond (t == s) (κ t ++ length (keys_of (node_at w n).held s) ∷ []) (κ t)
counts_after κ w e = κ

abbrev pub counts : Counts → World → List Event → Counts
counts κ w [] = κ
counts κ w (e ∷ es) = counts (counts_after κ w e) (after w e) es

-- a part that begins with its drain counts the slot's keys at the source when the plan begins
abbrev pub first_count : World → List PlanCommand → List ℕ
first_count w (planned.Drain s m t b ∷ rest) = length (keys_of (node_at w m).held s) ∷ []
first_count w commands = []

abbrev pub first_counts : World → List PlanCommand → Counts
first_counts w plan s = first_count w (part plan s)
