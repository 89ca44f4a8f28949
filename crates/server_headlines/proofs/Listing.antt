-- Listings are answered with keys, also by servers as the definitions let them answer.
use Rattle.std.proofs.Common.{ℕ, List, [], ◌∷◌}
use Rattle.cluster_admin.specs.declared.admin.AdminCommand.{AdminCommand}
use Rattle.cluster_admin.specs.declared.admin.AdminCommand.TheVariants.{Importing, Migrating, SetNode, Stable, KeysIn}
use Rattle.cluster_admin.specs.declared.admin.AdminCommand.TheVariants.{Migrate}
use Rattle.cluster_admin.specs.declared.admin.AdminReply.{AdminReply}
use Rattle.cluster_world.specs.Servers.{MayReply, ServerRun}
use Rattle.cluster_world.specs.Steps.{after}
use Rattle.cluster_world.specs.Worlds.{World}
use Rattle.cluster_world.specs.declared.event.Event.{Event}
use Rattle.cluster_world.specs.declared.event.Event.TheVariants.{Client, Look, Admin}
use Rattle.cluster_world.specs.AdminCalls.{calls}
use Rattle.server_runs.proofs.Listing.{ListsKeys, AllListKeys}

may_list : (w : World) (n : ℕ) (c : AdminCommand) (r : AdminReply) → MayReply w n c r → ListsKeys c r
may_list w n (KeysIn s b) r may = (may.0, may.1)
may_list w n (Importing s m) r may = tt
may_list w n (Migrating s m) r may = tt
may_list w n (SetNode s m) r may = tt
may_list w n (Stable s) r may = tt
may_list w n (Migrate ks m) r may = tt

pub served_keys : (es : List Event) (w last : World) → ServerRun w es last → AllListKeys (calls es)
served_keys [] w last run = tt
served_keys (Client seat n asking c r ∷ es) w last run = served_keys es (after w (Client seat n asking c r)) last run.1
served_keys (Look seat n r ∷ es) w last run = served_keys es w last run.1
served_keys (Admin n c r ∷ es) w last run =
    (may_list w n c r run.0.1, served_keys es (after w (Admin n c r)) last run.1)
