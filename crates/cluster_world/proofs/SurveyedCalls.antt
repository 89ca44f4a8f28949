-- What the administrator's calls tell of owners and marks.
use Rattle.std.proofs.Common.{◌≡◌, ℕ, Bool, true, false, cond, [], ◌∷◌, map, Option, Some, None, is_some, sym, refl, ap}
use Rattle.std.proofs.Common.{◌∙◌}
use Rattle.std.specs.Prelude.{slice_set}
use Rattle.std.proofs.lemmas.List.{map-set, set-get_or}
use Rattle.std.specs.List.{list_any}
use Rattle.client_commands.specs.Commands.{keys}
use Rattle.client_commands.specs.declared.command.Command.{Command}
use Rattle.store_commands.specs.Apply.{apply}
use Rattle.cluster_node.specs.Nodes.{Node, is_present, node_verdict, is_serve, client_node}
use Rattle.cluster_node.specs.Administration.{reply_if_accepted, node_if_accepted, target_if_accepted, reply_or}
use Rattle.cluster_admin.specs.declared.admin.AdminFault.{AdminFault}
use Rattle.cluster_admin.specs.declared.admin.AdminCommand.{AdminCommand}
use Rattle.cluster_admin.specs.declared.admin.AdminCommand.TheVariants.{Importing, Migrating, SetNode, Stable, KeysIn}
use Rattle.cluster_admin.specs.declared.admin.AdminCommand.TheVariants.{Migrate}
use Rattle.cluster_admin.specs.declared.admin.AdminReply.TheVariants as reply
use Rattle.cluster_world.specs.AdminCalls.{calls}
use Rattle.cluster_world.specs.Worlds.{World, node_at, change_node, row_of, survey_of}
use Rattle.cluster_world.specs.Commanding.{admin_fault, effect, admin_reply, admin_after}
use Rattle.cluster_world.specs.Steps.{after}
use Rattle.cluster_admin.specs.Surveys.{Row, Survey, closed_row, row_at}
use Rattle.cluster_admin.specs.Telling.{row_after, survey_told, survey_after}
use Rattle.cluster_world.specs.SurveyCalls.{SurveysAreTold}
use Rattle.cluster_world.specs.declared.event.Event.TheVariants.{Client, Look, Admin}
use Rattle.cluster_world.proofs.Surveyed.{world_row}

-- one node changes, and so does its row
row_changes : (w : World) (n : ℕ) (x : Node) (r : Row) → row_of x ≡ r → survey_of (change_node w n x) ≡ record { rows = slice_set (survey_of w).rows n r }
row_changes w n x r e = ap (λ rs. record { rows = rs }) (map-set row_of w.nodes n x ∙ ap (slice_set (map row_of w.nodes) n) e)

-- a row that is written again
row_again : (v : Survey) (n : ℕ) → record { rows = slice_set v.rows n (row_at v n) } ≡ v
row_again v n = ap (λ rs. record { rows = rs }) (set-get_or v.rows n (closed_row []))

-- a node whose row stays
row_stays : (w : World) (n : ℕ) (x : Node) → row_of x ≡ row_of (node_at w n) → survey_of (change_node w n x) ≡ survey_of w
row_stays w n x e = row_changes w n x (row_at (survey_of w) n) (e ∙ sym (world_row w n)) ∙ row_again (survey_of w) n

-- ---- a client's command

client_row : (n : ℕ) (x : Node) (asking : Bool) (c : Command) → row_of (client_node n x asking c) ≡ row_of x
unfolding client_node
client_row n x asking c = by (is_serve (node_verdict n x asking (keys c)))
  where
    by : (b : Bool) → row_of (cond b (record x { held = apply x.held c }) x) ≡ row_of x
    by true = refl
    by false = refl

-- ---- the administrator's command

accepted_row : (w : World) (n : ℕ) (c : AdminCommand) (x : Node) → row_of x ≡ row_after n (row_of (node_at w n)) c
    → survey_of (change_node w n x) ≡ survey_told (survey_of w) n c reply.Ok
accepted_row w n c x e = row_changes w n x (row_after n (row_at (survey_of w) n) c) (e ∙ ap (λ r. row_after n r c) (sym (world_row w n)))

effect_told : (w : World) (n : ℕ) (c : AdminCommand) → admin_fault w n c ≡ None
    → survey_of (effect w n c) ≡ survey_told (survey_of w) n c (reply_if_accepted (node_at w n) c)
unfolding effect reply_if_accepted node_if_accepted target_if_accepted
effect_told w n (Importing s m) none = accepted_row w n (Importing s m) (node_if_accepted n (node_at w n) (Importing s m)) refl
effect_told w n (Migrating s m) none = accepted_row w n (Migrating s m) (node_if_accepted n (node_at w n) (Migrating s m)) refl
effect_told w n (SetNode s m) none = accepted_row w n (SetNode s m) (node_if_accepted n (node_at w n) (SetNode s m)) refl
effect_told w n (Stable s) none = accepted_row w n (Stable s) (node_if_accepted n (node_at w n) (Stable s)) refl
effect_told w n (KeysIn s count) none = refl
effect_told w n (Migrate ks m) none = moved ∙ by (list_any (is_present (node_at w n)) ks)
  where
    x : Node
    x = target_if_accepted (node_at w n) (node_at w m) ks

    y : Node
    y = node_if_accepted n (node_at w n) (Migrate ks m)

    first : survey_of (change_node w m x) ≡ survey_of w
    first = row_stays w m x refl

    -- the source has the row that it had
    source : row_of y ≡ row_of (node_at (change_node w m x) n)
    source = sym (world_row w n) ∙ ap (λ v. row_at v n) (sym first) ∙ world_row (change_node w m x) n

    moved : survey_of (change_node (change_node w m x) n y) ≡ survey_of w
    moved = row_stays (change_node w m x) n y source ∙ first

    by : (b : Bool) → survey_of w ≡ survey_told (survey_of w) n (Migrate ks m) (cond b reply.Ok reply.NoKey)
    by true = sym (row_again (survey_of w) n)
    by false = refl

admin_told : (w : World) (n : ℕ) (c : AdminCommand) → survey_of (admin_after w n c) ≡ survey_told (survey_of w) n c (admin_reply w n c)
unfolding admin_after admin_reply
admin_told w n c = by (admin_fault w n c) refl
  where
    by : (o : Option AdminFault) → admin_fault w n c ≡ o
        → survey_of (cond (is_some o) w (effect w n c)) ≡ survey_told (survey_of w) n c (reply_or o (reply_if_accepted (node_at w n) c))
    by None e = effect_told w n c e
    by (Some f) e = refl

-- ---- events

pub surveys_are_told : SurveysAreTold
surveys_are_told w [] last run = ap survey_of run
surveys_are_told w (Client seat n asking c r ∷ es) last run =
    surveys_are_told (after w (Client seat n asking c r)) es last run.1
    ∙ ap (λ v. survey_after v (calls es)) (row_stays w n (client_node n (node_at w n) asking c) (client_row n (node_at w n) asking c))
surveys_are_told w (Look seat n r ∷ es) last run = surveys_are_told w es last run.1
surveys_are_told w (Admin n c r ∷ es) last run =
    surveys_are_told (after w (Admin n c r)) es last run.1
    ∙ ap (λ v. survey_after v (calls es)) (admin_told w n c ∙ ap (survey_told (survey_of w) n c) (sym run.0.1))
