-- Listings are answered with keys.
use Rattle.std.proofs.Common.{◌≡◌, ℕ, [], ◌∷◌, take, refl, ◌∙◌}
use Rattle.slot_keyspace.specs.Listing.{keys_of}
use Rattle.cluster_node.specs.Administration.{reply_if_accepted, setting_fault}
use Rattle.cluster_admin.specs.declared.admin.AdminCommand.{AdminCommand}
use Rattle.cluster_admin.specs.declared.admin.AdminCommand.TheVariants.{Importing, Migrating, SetNode, Stable, KeysIn}
use Rattle.cluster_admin.specs.declared.admin.AdminCommand.TheVariants.{Migrate}
use Rattle.cluster_admin.specs.declared.admin.AdminReply.{AdminReply}
use Rattle.cluster_admin.specs.declared.admin.AdminReply.TheVariants as reply
use Rattle.cluster_world.specs.Commanding.{admin_fault, admin_reply}
use Rattle.cluster_world.specs.Servers.{MayReply}
use Rattle.cluster_world.specs.Steps.{after}
use Rattle.cluster_world.specs.Worlds.{World, node_at}
use Rattle.cluster_world.specs.declared.event.Event.TheVariants.{Client, Look, Admin}
use Rattle.plan_semantics.specs.Listed.{IsListed}
use Rattle.reshard_theorem.specs.AnsweredLists.{RunsAreListed, ServerRunsAreListed}

listing_reply : (w : World) (n s b : ℕ) → admin_reply w n (KeysIn s b) ≡ reply.Keys (take b (keys_of (node_at w n).held s))
unfolding admin_reply admin_fault setting_fault reply_if_accepted
listing_reply w n s b = refl

listed : (w : World) (n : ℕ) (c : AdminCommand) (r : AdminReply) → r ≡ admin_reply w n c → IsListed c r
listed w n (Importing s m) r e = tt
listed w n (Migrating s m) r e = tt
listed w n (SetNode s m) r e = tt
listed w n (Stable s) r e = tt
listed w n (KeysIn s b) r e = (take b (keys_of (node_at w n).held s), e ∙ listing_reply w n s b)
listed w n (Migrate ks m) r e = tt

server_listed : (w : World) (n : ℕ) (c : AdminCommand) (r : AdminReply) → MayReply w n c r → IsListed c r
server_listed w n (Importing s m) r e = tt
server_listed w n (Migrating s m) r e = tt
server_listed w n (SetNode s m) r e = tt
server_listed w n (Stable s) r e = tt
server_listed w n (KeysIn s b) r e = (e.0, e.1)
server_listed w n (Migrate ks m) r e = tt

pub runs_are_listed : RunsAreListed
runs_are_listed w [] last run = tt
runs_are_listed w (Client seat n asking c r ∷ es) last run = runs_are_listed (after w (Client seat n asking c r)) es last run.1
runs_are_listed w (Look seat n r ∷ es) last run = runs_are_listed w es last run.1
runs_are_listed w (Admin n c r ∷ es) last run =
    (listed w n c r run.0.1, runs_are_listed (after w (Admin n c r)) es last run.1)

pub server_runs_are_listed : ServerRunsAreListed
server_runs_are_listed w [] last run = tt
server_runs_are_listed w (Client seat n asking c r ∷ es) last run =
    server_runs_are_listed (after w (Client seat n asking c r)) es last run.1
server_runs_are_listed w (Look seat n r ∷ es) last run = server_runs_are_listed w es last run.1
server_runs_are_listed w (Admin n c r ∷ es) last run =
    (server_listed w n c r run.0.1, server_runs_are_listed (after w (Admin n c r)) es last run.1)
