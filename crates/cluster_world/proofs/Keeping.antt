-- What a command of the administrator leaves as it is.
use Rattle.std.proofs.Common.{◌≡◌, ℕ, Bool, true, false, cond, length, Option, Some, None, is_some, refl, subst, ◌∙◌}
use Rattle.cluster_node.specs.Administration.{reply_if_accepted, reply_or, target_if_accepted}
use Rattle.cluster_admin.specs.Commands.{IsListing}
use Rattle.cluster_admin.specs.declared.admin.AdminFault.{AdminFault}
use Rattle.cluster_admin.specs.declared.admin.AdminCommand.{AdminCommand}
use Rattle.cluster_admin.specs.declared.admin.AdminCommand.TheVariants.{Importing, Migrating, SetNode, Stable, KeysIn}
use Rattle.cluster_admin.specs.declared.admin.AdminCommand.TheVariants.{Migrate}
use Rattle.cluster_admin.specs.declared.admin.AdminReply.{AdminReply}
use Rattle.cluster_admin.specs.declared.admin.AdminReply.TheVariants.{Ok, NoKey}
use Rattle.cluster_world.specs.Worlds.{World, node_at, change_node}
use Rattle.cluster_world.specs.Commanding.{admin_fault, effect, admin_reply, admin_after}
use Rattle.cluster_world.proofs.Viewing.{length_kept}

-- ---- the world, where the reply is a listing

no_listing : (b : Bool) → IsListing (cond b Ok NoKey) → ⊥
no_listing true h = h
no_listing false h = h

effect-listing : (w : World) (n : ℕ) (c : AdminCommand) → IsListing (reply_if_accepted (node_at w n) c) → effect w n c ≡ w
unfolding reply_if_accepted effect
effect-listing w n (Importing s m) h = absurd h
effect-listing w n (Migrating s m) h = absurd h
effect-listing w n (SetNode s m) h = absurd h
effect-listing w n (Stable s) h = absurd h
effect-listing w n (KeysIn s count) h = refl
effect-listing w n (Migrate ks m) h = absurd (no_listing _ h)

pub listing-keeps : (w : World) (n : ℕ) (c : AdminCommand) (r : AdminReply) → r ≡ admin_reply w n c → IsListing r → admin_after w n c ≡ w
unfolding admin_reply admin_after
listing-keeps w n c r is h = by (admin_fault w n c) (subst IsListing is h)
  where
    by : (f : Option AdminFault) → IsListing (reply_or f (reply_if_accepted (node_at w n) c)) → cond (is_some f) w (effect w n c) ≡ w
    by None u = effect-listing w n c u
    by (Some f) u = refl

-- ---- how many nodes there are

effect-length : (w : World) (n : ℕ) (c : AdminCommand) → length (effect w n c).nodes ≡ length w.nodes
unfolding effect
effect-length w n (Importing s m) = length_kept w n _
effect-length w n (Migrating s m) = length_kept w n _
effect-length w n (SetNode s m) = length_kept w n _
effect-length w n (Stable s) = length_kept w n _
effect-length w n (KeysIn s count) = refl
effect-length w n (Migrate ks m) = length_kept (change_node w m (target_if_accepted (node_at w n) (node_at w m) ks)) n _ ∙ length_kept w m _

pub after-length : (w : World) (n : ℕ) (c : AdminCommand) → length (admin_after w n c).nodes ≡ length w.nodes
unfolding admin_after
after-length w n c = by (is_some (admin_fault w n c))
  where
    by : (b : Bool) → length (cond b w (effect w n c)).nodes ≡ length w.nodes
    by true = refl
    by false = effect-length w n c
