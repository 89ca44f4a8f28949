-- A command of one node is that command at the world.
use Rattle.std.proofs.Common.{◌≡◌, ℕ, ◌<◌, Bool, true, false, cond, List, length, Option, Some, None, Result, Ok, Err, OnErr, refl, sym, ap, ◌∙◌, is_some}
use Rattle.std.proofs.lemmas.List.{set-get_or}
use Rattle.std.proofs.Math.ListN.{set}
use Rattle.cluster_node.specs.Nodes.{Node, blank}
use Rattle.cluster_node.specs.NodeView.{NodeView}
use Rattle.cluster_admin.specs.Commands.{IsListing}
use Rattle.cluster_node.specs.Administration.{IsSetting, setting_fault, reply_if_accepted, node_if_accepted, reply_or}
use Rattle.cluster_admin.specs.declared.admin.AdminCommand.{AdminCommand}
use Rattle.cluster_admin.specs.declared.admin.AdminFault.{AdminFault}
use Rattle.cluster_admin.specs.declared.admin.AdminReply.TheVariants as reply
use Rattle.cluster_admin.specs.declared.admin.AdminCommand.TheVariants.{Importing, Migrating, SetNode, Stable, KeysIn}
use Rattle.cluster_admin.specs.declared.admin.AdminCommand.TheVariants.{Migrate}
use Rattle.cluster_world.specs.Worlds.{World, node_at, change_node}
use Rattle.cluster_world.specs.Commanding.{TakesMemory, admin_fault, effect, admin_reply, admin_after}
use Rattle.cluster_world.specs.WorldView.{world_of}
use Rattle.cluster_world.proofs.Within.{Found, world-set}

-- what stands at a node may be put there again
pub change-same : (w : World) (n : ℕ) → n < length w.nodes → change_node w n (node_at w n) ≡ w
change-same w n h = ap (λ xs. record w { nodes = xs }) (set-get_or w.nodes n blank)

pub fault-setting : (w : World) (n : ℕ) (c : AdminCommand) → IsSetting c → admin_fault w n c ≡ setting_fault n (length w.nodes) (node_at w n) c
unfolding admin_fault
fault-setting w n (Importing s m) is = refl
fault-setting w n (Migrating s m) is = refl
fault-setting w n (SetNode s m) is = refl
fault-setting w n (Stable s) is = refl
fault-setting w n (KeysIn s count) is = refl
fault-setting w n (Migrate ks m) is = absurd is

effect-setting : (w : World) (n : ℕ) (c : AdminCommand) → n < length w.nodes → IsSetting c → effect w n c ≡ change_node w n (node_if_accepted n (node_at w n) c)
unfolding effect node_if_accepted
effect-setting w n (Importing s m) h is = refl
effect-setting w n (Migrating s m) h is = refl
effect-setting w n (SetNode s m) h is = refl
effect-setting w n (Stable s) h is = refl
effect-setting w n (KeysIn s count) h is = sym (change-same w n h)
effect-setting w n (Migrate ks m) h is = absurd is

after_by : (w : World) (n : ℕ) (x : Node) (b : Bool) → n < length w.nodes → change_node w n (cond b (node_at w n) x) ≡ cond b w (change_node w n x)
after_by w n x true h = change-same w n h
after_by w n x false h = refl

pub after-setting : (w : World) (n : ℕ) (c : AdminCommand) → n < length w.nodes → IsSetting c
    → change_node w n (cond (is_some (setting_fault n (length w.nodes) (node_at w n) c)) (node_at w n) (node_if_accepted n (node_at w n) c)) ≡ admin_after w n c
unfolding admin_after
after-setting w n c h is =
    after_by w n (node_if_accepted n (node_at w n) c) (is_some (setting_fault n (length w.nodes) (node_at w n) c)) h
    ∙ ap (λ f. cond (is_some f) w (change_node w n (node_if_accepted n (node_at w n) c))) (sym (fault-setting w n c is))
    ∙ ap (λ v. cond (is_some (admin_fault w n c)) w v) (sym (effect-setting w n c h is))

-- the node answers for the world
pub reply-setting : (port : ℕ) (xs : List NodeView) (n : ℕ) (x : NodeView) (w : World) (c : AdminCommand) → Found port xs n x → world_of port xs ≡ w → IsSetting c
    → reply_or (setting_fault x.me x.nodes x.node c) (reply_if_accepted x.node c) ≡ admin_reply w n c
unfolding admin_reply
reply-setting port xs n x w c f is setting =
    ap (λ m. reply_or (setting_fault m x.nodes x.node c) (reply_if_accepted x.node c)) f.me
    ∙ ap (λ m. reply_or (setting_fault n m x.node c) (reply_if_accepted x.node c)) f.count
    ∙ ap (λ z. reply_or (setting_fault n (length (world_of port xs).nodes) z c) (reply_if_accepted z c)) f.node
    ∙ ap (λ v. reply_or (setting_fault n (length v.nodes) (node_at v n) c) (reply_if_accepted (node_at v n) c)) is
    ∙ ap (λ z. reply_or z (reply_if_accepted (node_at w n) c)) (sym (fault-setting w n c setting))

pub setting-set : (port : ℕ) (xs : List NodeView) (i n : ℕ) (x y : NodeView) (w : World) (c : AdminCommand) → i ≡ n → n < length w.nodes → Found port xs n x → world_of port xs ≡ w → IsSetting c
    → y ≡ record x { node = cond (is_some (setting_fault x.me x.nodes x.node c)) x.node (node_if_accepted x.me x.node c) } → world_of port (set xs i y) ≡ admin_after w n c
setting-set port xs i n x y w c at h f is setting e =
    world-set port xs i n y at
    ∙ ap (change_node (world_of port xs) n) (ap (λ z. z.node) e
    ∙ ap (λ m. cond (is_some (setting_fault m x.nodes x.node c)) x.node (node_if_accepted m x.node c)) f.me
    ∙ ap (λ m. cond (is_some (setting_fault n m x.node c)) x.node (node_if_accepted n x.node c)) f.count
    ∙ ap (λ z. cond (is_some (setting_fault n (length (world_of port xs).nodes) z c)) z (node_if_accepted n z c)) f.node)
    ∙ ap (λ v. change_node v n (cond (is_some (setting_fault n (length v.nodes) (node_at v n) c)) (node_at v n) (node_if_accepted n (node_at v n) c))) is
    ∙ after-setting w n c h setting

-- ---- out of memory

no_listing : (o : Option AdminFault) → IsListing (reply_or o reply.Ok) → ⊥
no_listing None listing = listing
no_listing (Some f) listing = listing

listing-takes : (me count : ℕ) (x : Node) (w : World) (n : ℕ) (c : AdminCommand) → IsSetting c → IsListing (reply_or (setting_fault me count x c) (reply_if_accepted x c)) → TakesMemory w n c
unfolding reply_if_accepted
listing-takes me count x w n (KeysIn slot most) is listing = tt
listing-takes me count x w n (Migrate keys target) is listing = absurd is
listing-takes me count x w n c is listing = no_listing (setting_fault me count x c) listing

-- where only a listing can meet it
pub memory-setting : {A F : Type 0} (r : Result A F) (me count : ℕ) (x : Node) (w : World) (n : ℕ) (c : AdminCommand) → IsSetting c
    → OnErr r (IsListing (reply_or (setting_fault me count x c) (reply_if_accepted x c))) → OnErr r (TakesMemory w n c)
memory-setting (Ok y) me count x w n c is listing = tt
memory-setting (Err e) me count x w n c is listing = listing-takes me count x w n c is listing
