-- The importing marks after an event, by its reply alone.
use Rattle.std.proofs.Common.{◌≡◌, ℕ, ◌<◌, Bool, true, false, cond, eqb, ◌&&◌, List, length, Option, Some, None}
use Rattle.std.proofs.Common.{is_some, sym, refl, ap, ◌∙◌, subst, inl, inr}
use Rattle.std.specs.Prelude.{nat_lt}
use Rattle.std.proofs.lemmas.Bool.{cases_eq, ltb-true, ne_eqb, eq-eqb, not-false}
use Rattle.std.specs.FinMap as map
use Rattle.std.specs.List.{list_any}
use Rattle.store_commands.specs.Store.{Key}
use Rattle.client_commands.specs.Commands.{keys}
use Rattle.store_commands.specs.Apply.{apply}
use Rattle.client_commands.specs.declared.command.Command.{Command}
use Rattle.cluster_node.specs.Nodes.{Node, is_present, node_verdict, is_serve, client_node}
use Rattle.cluster_node.specs.Administration.{reply_if_accepted, node_if_accepted, target_if_accepted, reply_or}
use Rattle.cluster_admin.specs.declared.admin.AdminFault.{AdminFault}
use Rattle.cluster_admin.specs.declared.admin.AdminCommand.{AdminCommand}
use Rattle.cluster_admin.specs.declared.admin.AdminCommand.TheVariants.{Importing, Migrating, SetNode, Stable, KeysIn}
use Rattle.cluster_admin.specs.declared.admin.AdminCommand.TheVariants.{Migrate}
use Rattle.cluster_admin.specs.declared.admin.AdminReply.TheVariants as reply
use Rattle.cluster_world.specs.Worlds.{World, node_at, change_node, importing}
use Rattle.cluster_world.specs.Commanding.{admin_fault, effect, admin_reply, admin_after}
use Rattle.cluster_world.specs.declared.event.Event.TheVariants.{Client, Look, Admin}
use Rattle.cluster_world.proofs.Viewing.{node_same, node_other, field_kept, length_kept}
use Rattle.cluster_world.specs.Earning.{imports, MarksAreTold}
use Rattle.cluster_admin.proofs.Marks.{inserted, removed}

-- a node's marks change by a test, and the others stay
module _ (w : World) (r : ℕ) (x : Node) (inside : r < length w.nodes) where
  one_changes : (n t : ℕ) (b : Bool) (v : Option ℕ) → map.get x.importing t ≡ cond b v (map.get (node_at w r).importing t)
      → importing (change_node w r x) n t ≡ cond (eqb n r && b) v (importing w n t)
  one_changes n t b v e = elim (cases_eq n r) [
    | inl u ↦ subst (λ k. importing (change_node w r x) k t ≡ cond (eqb k r && b) v (importing w k t)) (sym u)
        (ap (λ y. map.get y.importing t) (node_same w r x inside) ∙ e ∙ ap (λ c. cond (c && b) v (importing w r t)) (sym (eq-eqb r r refl)))
    | inr u ↦ ap (λ y. map.get y.importing t) (node_other w r x n u) ∙ ap (λ c. cond (c && b) v (importing w n t)) (sym (ne_eqb n r u))
  ]

  none_changes : (n t : ℕ) → x.importing ≡ (node_at w r).importing → importing (change_node w r x) n t ≡ importing w n t
  none_changes n t e = field_kept (λ y. map.get y.importing t) w r x inside (ap (λ m. map.get m t) e) n

-- ---- a client's command

client_marks : (x : ℕ) (y : Node) (asking : Bool) (c : Command) → (client_node x y asking c).importing ≡ y.importing
unfolding client_node
client_marks x y asking c = by (is_serve (node_verdict x y asking (keys c)))
  where
    by : (b : Bool) → (cond b (record y { held = apply y.held c }) y).importing ≡ y.importing
    by true = refl
    by false = refl

-- ---- the administrator's command

refused_marks : (marks : ℕ → ℕ → Option ℕ) (r : ℕ) (c : AdminCommand) (f : AdminFault) (n t : ℕ) → marks n t ≡ imports marks (Admin r c (reply.Refused f)) n t
refused_marks marks r (Importing s m) f n t = refl
refused_marks marks r (Migrating s m) f n t = refl
refused_marks marks r (SetNode s m) f n t = refl
refused_marks marks r (Stable s) f n t = refl
refused_marks marks r (KeysIn s count) f n t = refl
refused_marks marks r (Migrate ks m) f n t = refl

first_none : {F : Type 0} (b : Bool) (f : F) (o : Option F) → cond b (Some f) o ≡ None → b ≡ false
first_none true f o e = cc
first_none false f o e = refl

-- the target of a MIGRATE that is not refused is a node
is_known : (w : World) (r : ℕ) (ks : List Key) (m : ℕ) → admin_fault w r (Migrate ks m) ≡ None → m < length w.nodes
unfolding admin_fault
is_known w r ks m none = ltb-true m (length w.nodes) (not-false (nat_lt m (length w.nodes)) (first_none _ _ _ none))

set_node : (a b c : Bool) (v : Option ℕ) → cond (a && (b && c)) None v ≡ cond (a && b && c) None v
set_node true b c v = refl
set_node false b c v = refl

by_test : (c b : Bool) (v : Option ℕ) → cond c (cond b None v) v ≡ cond (b && c) None v
by_test true true v = refl
by_test true false v = refl
by_test false true v = refl
by_test false false v = refl

effect_marks : (w : World) (r : ℕ) (c : AdminCommand) (n t : ℕ) → r < length w.nodes → admin_fault w r c ≡ None → importing (effect w r c) n t ≡ imports (λ m s. importing w m s) (Admin r c (reply_if_accepted (node_at w r) c)) n t
unfolding effect reply_if_accepted node_if_accepted target_if_accepted
effect_marks w r (Importing s m) n t inside none = one_changes w r (node_if_accepted r (node_at w r) (Importing s m)) inside n t (eqb t s) (Some m) (inserted (node_at w r).importing s m t)
effect_marks w r (Migrating s m) n t inside none = none_changes w r (node_if_accepted r (node_at w r) (Migrating s m)) inside n t refl
effect_marks w r (SetNode s m) n t inside none =
    one_changes w r (node_if_accepted r (node_at w r) (SetNode s m)) inside n t (eqb t s && eqb m r) None (at (eqb m r))
    ∙ set_node (eqb n r) (eqb t s) (eqb m r) (importing w n t)
  where
    at : (b : Bool) → map.get (cond b (map.remove (node_at w r).importing s) (node_at w r).importing) t ≡ cond (eqb t s && b) None (map.get (node_at w r).importing t)
    at true = removed (node_at w r).importing s t ∙ by_test true (eqb t s) (map.get (node_at w r).importing t)
    at false = by_test false (eqb t s) (map.get (node_at w r).importing t)
effect_marks w r (Stable s) n t inside none =
    one_changes w r (node_if_accepted r (node_at w r) (Stable s)) inside n t (eqb t s) None (removed (node_at w r).importing s t)
effect_marks w r (KeysIn s count) n t inside none = refl
effect_marks w r (Migrate ks m) n t inside none = moved ∙ by (list_any (is_present (node_at w r)) ks)
  where
    x : Node
    x = target_if_accepted (node_at w r) (node_at w m) ks

    known : m < length w.nodes
    known = is_known w r ks m none

    moved : importing (change_node (change_node w m x) r (node_if_accepted r (node_at w r) (Migrate ks m))) n t ≡ importing w n t
    moved =
        field_kept (λ y. map.get y.importing t) (change_node w m x) r (node_if_accepted r (node_at w r) (Migrate ks m)) (subst (λ k. r < k) (sym (length_kept w m x)) inside)
        (sym (field_kept (λ y. map.get y.importing t) w m x known refl r)) n
        ∙ field_kept (λ y. map.get y.importing t) w m x known refl n

    by : (b : Bool) → importing w n t ≡ imports (λ m s. importing w m s) (Admin r (Migrate ks m) (cond b reply.Ok reply.NoKey)) n t
    by true = refl
    by false = refl

admin_marks : (w : World) (r : ℕ) (c : AdminCommand) (n t : ℕ) → r < length w.nodes → importing (admin_after w r c) n t ≡ imports (λ m s. importing w m s) (Admin r c (admin_reply w r c)) n t
unfolding admin_after admin_reply
admin_marks w r c n t inside = by (admin_fault w r c) refl
  where
    by : (o : Option AdminFault) → admin_fault w r c ≡ o → importing (cond (is_some o) w (effect w r c)) n t ≡ imports (λ m s. importing w m s) (Admin r c (reply_or o (reply_if_accepted (node_at w r) c))) n t
    by None e = effect_marks w r c n t inside e
    by (Some f) e = refused_marks (λ m s. importing w m s) r c f n t

pub marks_are_told : MarksAreTold
marks_are_told w (Client seat x asking c r) answers n t = none_changes w x (client_node x (node_at w x) asking c) answers.0 n t (client_marks x (node_at w x) asking c)
marks_are_told w (Look seat x r) answers n t = refl
marks_are_told w (Admin r c told) answers n t = admin_marks w r c n t answers.0 ∙ ap (λ a. imports (λ m s. importing w m s) (Admin r c a) n t) (sym answers.1)
