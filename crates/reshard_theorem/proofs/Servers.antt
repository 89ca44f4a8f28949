-- The replies that a server may give, and the world's own among them.
use Rattle.std.proofs.Common.{◌≡◌, ℕ, zero, suc, Bool, true, false, cond, List, [], ◌∷◌, take, None, sym, refl, ap, ◌∙◌, subst, subst₂, inl, inr}
use Rattle.std.proofs.lemmas.Bool.{true≢false, or_cases, or_left, or_right}
use Rattle.std.proofs.lemmas.List.{length-take}
use Rattle.std.proofs.lemmas.Map.Keys.{IsDistinct-head, IsDistinct-tail, IsDistinct-cons}
use Rattle.std.specs.List.{AllByRecursion, IsDistinct}
use Rattle.store_commands.specs.Store.{Key, Store, same_key, is_named}
use Rattle.slot_keyspace.specs.Listing.{keys_of}
use Rattle.cluster_admin.specs.declared.admin.AdminCommand.{AdminCommand}
use Rattle.cluster_admin.specs.declared.admin.AdminCommand.TheVariants.{Importing, Migrating, SetNode, Stable, KeysIn}
use Rattle.cluster_admin.specs.declared.admin.AdminCommand.TheVariants.{Migrate}
use Rattle.cluster_admin.specs.declared.admin.AdminReply.{AdminReply}
use Rattle.cluster_admin.specs.declared.admin.AdminReply.TheVariants as answers
use Rattle.cluster_world.specs.Worlds.{World, node_at}
use Rattle.cluster_node.specs.Administration.{setting_fault, reply_if_accepted, reply_or}
use Rattle.cluster_world.specs.Commanding.{admin_fault, admin_reply}
use Rattle.plan_semantics.specs.Driving.{is_refused}
use Rattle.cluster_world.specs.Steps.{after}
use Rattle.cluster_world.specs.declared.event.Event.TheVariants.{Client, Look, Admin}
use Rattle.cluster_world.specs.Servers.{ListsSlot, MayReply, WorldMayReply, RunsAreServerRuns}
use Rattle.reshard_theorem.proofs.Counting.{distinct_slot}

-- ---- the first keys are such keys

named_take : (b : ℕ) (xs : List Key) (q : Key) → is_named q (take b xs) ≡ true → is_named q xs ≡ true
named_take zero xs q e = absurd (true≢false (sym e))
named_take (suc b) [] q e = e
named_take (suc b) (x ∷ xs) q e = elim (or_cases (same_key q x) (is_named q (take b xs)) e) [
  | inl v ↦ or_left (same_key q x) (is_named q xs) v
  | inr v ↦ or_right (same_key q x) (is_named q xs) (named_take b xs q v)
]

all_take : (P : Key → Type 0) (b : ℕ) (xs : List Key) → AllByRecursion P xs → AllByRecursion P (take b xs)
all_take P zero xs h = tt
all_take P (suc b) [] h = tt
all_take P (suc b) (x ∷ xs) h = (h.0, all_take P b xs h.1)

distinct_take : (b : ℕ) (xs : List Key) → IsDistinct same_key xs → IsDistinct same_key (take b xs)
unfolding IsDistinct
distinct_take zero xs h = tt
distinct_take (suc b) [] h = tt
distinct_take (suc b) (x ∷ xs) h = IsDistinct-cons same_key x (take b xs) (all_take (λ y. same_key x y ≡ false) b xs (IsDistinct-head same_key x xs h)) (distinct_take b xs (IsDistinct-tail same_key x xs h))

pub first_listed : (store : Store) (s b : ℕ) → ListsSlot store s b (take b (keys_of store s))
first_listed store s b = record {
  distinct = distinct_take b (keys_of store s) (distinct_slot store s);
  stand = λ q e. named_take b (keys_of store s) q e;
  many = length-take b (keys_of store s);
}

-- the reply to a listing
pub listing_reply : (w : World) (r s b : ℕ) → admin_reply w r (KeysIn s b) ≡ answers.Keys (take b (keys_of (node_at w r).held s))
unfolding admin_reply admin_fault setting_fault reply_if_accepted
listing_reply w r s b = refl

pub world_may_reply : WorldMayReply
world_may_reply w r (Importing s m) = refl
world_may_reply w r (Migrating s m) = refl
world_may_reply w r (SetNode s m) = refl
world_may_reply w r (Stable s) = refl
world_may_reply w r (KeysIn s b) = (take b (keys_of (node_at w r).held s), listing_reply w r s b, first_listed (node_at w r).held s b)
world_may_reply w r (Migrate ks m) = refl

pub is_reply : (w : World) (r : ℕ) (c : AdminCommand) (reply : AdminReply) → reply ≡ admin_reply w r c → MayReply w r c reply
is_reply w r c reply e = subst (MayReply w r c) (sym e) (world_may_reply w r c)

pub runs_are_server_runs : RunsAreServerRuns
runs_are_server_runs w [] last run = run
runs_are_server_runs w (Client seat x asking c reply ∷ es) last run = (run.0, runs_are_server_runs (after w (Client seat x asking c reply)) es last run.1)
runs_are_server_runs w (Look seat x reply ∷ es) last run = (run.0, runs_are_server_runs w es last run.1)
runs_are_server_runs w (Admin r c reply ∷ es) last run = ((run.0.0, is_reply w r c reply run.0.1), runs_are_server_runs (after w (Admin r c reply)) es last run.1)

-- ---- what a reply tells

same_keys : (ks js : List Key) → answers.Keys ks ≡ answers.Keys js → ks ≡ js
same_keys ks js u = cc

-- the keys of a listing's reply
pub listing_keys : (w : World) (r m s b : ℕ) (c : AdminCommand) (reply : AdminReply) (ks : List Key) → r ≡ m → c ≡ KeysIn s b → MayReply w r c reply → reply ≡ answers.Keys ks → ListsSlot (node_at w m).held s b ks
listing_keys w r m s b c reply ks p q e i =
    let l : MayReply w m (KeysIn s b) reply = subst₂ (λ x y. MayReply w x y reply) p q e in
    subst (λ js. ListsSlot (node_at w m).held s b js) (same_keys l.0 ks (sym l.1 ∙ i)) l.2

-- an IMPORTING that is not refused says Ok
abbrev pub IsGranted : AdminCommand → AdminReply → Type 0
IsGranted (Importing s m) reply = reply ≡ answers.Ok
IsGranted (Migrating s m) reply = Unit {0}
IsGranted (SetNode s m) reply = Unit {0}
IsGranted (Stable s) reply = Unit {0}
IsGranted (KeysIn s b) reply = Unit {0}
IsGranted (Migrate ks m) reply = Unit {0}

pub granted_reply : (w : World) (r : ℕ) (c : AdminCommand) (reply : AdminReply) → MayReply w r c reply → admin_fault w r c ≡ None → IsGranted c reply
unfolding admin_reply reply_if_accepted
granted_reply w r (Importing s m) reply e f = e ∙ ap (λ o. reply_or o answers.Ok) f
granted_reply w r (Migrating s m) reply e f = tt
granted_reply w r (SetNode s m) reply e f = tt
granted_reply w r (Stable s) reply e f = tt
granted_reply w r (KeysIn s b) reply e f = tt
granted_reply w r (Migrate ks m) reply e f = tt

granted_fine : (w : World) (r : ℕ) (c : AdminCommand) → is_refused (reply_if_accepted (node_at w r) c) ≡ false
unfolding reply_if_accepted
granted_fine w r (Importing s m) = refl
granted_fine w r (Migrating s m) = refl
granted_fine w r (SetNode s m) = refl
granted_fine w r (Stable s) = refl
granted_fine w r (KeysIn s b) = refl
granted_fine w r (Migrate ks m) = by _
  where
    by : (b : Bool) → is_refused (cond b answers.Ok answers.NoKey) ≡ false
    by true = refl
    by false = refl

world_fine : (w : World) (r : ℕ) (c : AdminCommand) (reply : AdminReply) → reply ≡ admin_reply w r c → admin_fault w r c ≡ None → is_refused reply ≡ false
unfolding admin_reply
world_fine w r c reply e f = ap is_refused (e ∙ ap (λ o. reply_or o (reply_if_accepted (node_at w r) c)) f) ∙ granted_fine w r c

pub not_refused : (w : World) (r : ℕ) (c : AdminCommand) (reply : AdminReply) → MayReply w r c reply → admin_fault w r c ≡ None → is_refused reply ≡ false
not_refused w r (Importing s m) reply e f = world_fine w r (Importing s m) reply e f
not_refused w r (Migrating s m) reply e f = world_fine w r (Migrating s m) reply e f
not_refused w r (SetNode s m) reply e f = world_fine w r (SetNode s m) reply e f
not_refused w r (Stable s) reply e f = world_fine w r (Stable s) reply e f
not_refused w r (KeysIn s b) reply e f = ap is_refused e.1
not_refused w r (Migrate ks m) reply e f = world_fine w r (Migrate ks m) reply e f
