-- A clean world that only clients call stays clean, and answers as one table and one store.
use Rattle.std.proofs.Common.{◌≡◌, ◌≢◌, ℕ, ◌<◌, Bool, true, false, cond, List, [], ◌∷◌, length, refl, sym, ap, subst, ◌∙◌, inl, inr}
use Rattle.std.proofs.lemmas.Bool.{cases_eq, cases_Bool, true≢false}
use Rattle.std.specs.Prelude.{slice_index}
use Rattle.resp2_wire.specs.declared.reply.Reply.{Reply}
use Rattle.store_commands.specs.Store.{Store}
use Rattle.store_commands.specs.Apply.{answer, apply}
use Rattle.client_commands.specs.declared.command.Command.{Command}
use Rattle.cluster_node.specs.Nodes.{Node, client_reply, client_node}
use Rattle.cluster_world.specs.Worlds.{World, node_at, change_node}
use Rattle.cluster_world.specs.Steps.{after}
use Rattle.cluster_world.specs.Cleanness.{Clean, clean_node}
use Rattle.cluster_world.specs.Serving.{served, replay_of, store_after, is_redirection}
use Rattle.cluster_world.specs.Static.{static_reply, IsStatic, StaticCluster}
use Rattle.cluster_world.specs.declared.event.Event.{Event}
use Rattle.cluster_world.specs.declared.event.Event.TheVariants.{Client, Look, Admin}
use Rattle.cluster_world.proofs.Viewing.{node_same, node_other, length_kept}
use Rattle.cluster_world.proofs.Telling.{answered, redirect_told}
use Rattle.cluster_world.proofs.Cleanly.{Outcome, Told, Served, outcome, share-apply}

-- one node changes, and with it the store
changed : (w : World) (owners : List ℕ) (store later : Store) (n : ℕ) (x : Node) → Clean w owners store → n < length w.nodes → x ≡ clean_node owners later n
    → ((m : ℕ) → m ≢ n → clean_node owners store m ≡ clean_node owners later m) → Clean (change_node w n x) owners later
changed w owners store later n x clean there is others = record {
  width = clean.width;
  owned = λ s. subst (λ l. slice_index owners s < l) (sym (length_kept w n x)) (clean.owned s);
  nodes = λ m h. at m (subst (λ l. m < l) (length_kept w n x) h);
}
  where
    at : (m : ℕ) → m < length w.nodes → node_at (change_node w n x) m ≡ clean_node owners later m
    at m h = elim (cases_eq m n) [
      | inl e ↦ subst (λ k. node_at (change_node w n x) k ≡ clean_node owners later k) (sym e) (node_same w n x there ∙ is)
      | inr apart ↦ node_other w n x m apart ∙ clean.nodes m h ∙ others m apart
    ]

-- what one client event does to the one store
abbrev pub store_next : Store → Command → Reply → Store
store_next store c r = store_after store (cond (is_redirection r) [] ((c, r) ∷ []))

pub record Stays (w : World) (owners : List ℕ) (store : Store) (n : ℕ) (asking : Bool) (c : Command) (r : Reply) : Type 0 where
  pub reply : r ≡ static_reply w.base_port owners store n c
  pub clean : Clean (change_node w n (client_node n (node_at w n) asking c)) owners (store_next store c r)
  pub replay : is_redirection r ≡ false → r ≡ answer store c

client_step : (w : World) (owners : List ℕ) (store : Store) (n : ℕ) (asking : Bool) (c : Command) (r : Reply) → Clean w owners store → n < length w.nodes
    → r ≡ client_reply w.base_port n (node_at w n) asking c → Stays w owners store n asking c r
client_step w owners store n asking c r clean there is = go (outcome w.base_port owners store n asking c)
  where
    at : r ≡ client_reply w.base_port n (clean_node owners store n) asking c
    at = is ∙ ap (λ x. client_reply w.base_port n x asking c) (clean.nodes n there)

    go : Outcome w.base_port owners store n asking c → Stays w owners store n asking c r
    go (Told v unserved reply static node) =
        let red : is_redirection r ≡ true = ap is_redirection (at ∙ reply) ∙ redirect_told w.base_port _ v unserved in
        record {
          reply = at ∙ reply ∙ sym static;
          clean = subst (Clean (change_node w n (client_node n (node_at w n) asking c)) owners) (ap (λ b. store_after store (cond b [] ((c, r) ∷ []))) (sym red))
              (changed w owners store store n (client_node n (node_at w n) asking c) clean there (ap (λ x. client_node n x asking c) (clean.nodes n there) ∙ node) (λ m apart. refl));
          replay = λ f. absurd (true≢false (sym red ∙ f));
        }
    go (Served here reply static node) =
        let plain : is_redirection r ≡ false = ap is_redirection (at ∙ reply) ∙ answered store c in
        record {
          reply = at ∙ reply ∙ sym static;
          clean = subst (Clean (change_node w n (client_node n (node_at w n) asking c)) owners) (ap (λ b. store_after store (cond b [] ((c, r) ∷ []))) (sym plain))
              (changed w owners store (apply store c) n (client_node n (node_at w n) asking c) clean there (ap (λ x. client_node n x asking c) (clean.nodes n there) ∙ node)
              (λ m apart. λ i. record (clean_node owners store m) { held = share-apply owners store n m c here apart i }));
          replay = λ f. at ∙ reply;
        }

module _ (first : World) (owners : List ℕ) (store : Store) (seat n : ℕ) (asking : Bool) (c : Command) (r : Reply) (es : List Event) (last : World) (reply : r ≡ static_reply first.base_port owners store n c) where
  told_first : is_redirection r ≡ true → IsStatic (after first (Client seat n asking c r)) owners (store_next store c r) es last → IsStatic first owners store (Client seat n asking c r ∷ es) last
  told_first e rest =
      let same : store_next store c r ≡ store = ap (λ b. store_after store (cond b [] ((c, r) ∷ []))) e in
      let all : served (Client seat n asking c r ∷ es) ≡ served es = ap (λ b. cond b (served es) ((c, r) ∷ served es)) e in
      record {
        replies = (reply, rest.replies);
        replay = all ∙ rest.replay ∙ ap (λ s. replay_of s (served es)) same ∙ ap (replay_of store) (sym all);
        clean = subst (Clean last owners) ((λ i. store_after (same i) (served es)) ∙ ap (store_after store) (sym all)) rest.clean;
      }

  served_first : is_redirection r ≡ false → r ≡ answer store c → IsStatic (after first (Client seat n asking c r)) owners (store_next store c r) es last → IsStatic first owners store (Client seat n asking c r ∷ es) last
  served_first e is rest =
      let next : store_next store c r ≡ apply store c = ap (λ b. store_after store (cond b [] ((c, r) ∷ []))) e in
      let all : served (Client seat n asking c r ∷ es) ≡ (c, r) ∷ served es = ap (λ b. cond b (served es) ((c, r) ∷ served es)) e in
      let later : served es ≡ replay_of (apply store c) (served es) = rest.replay ∙ ap (λ s. replay_of s (served es)) next in
      record {
        replies = (reply, rest.replies);
        replay = all ∙ (λ i. (c, is i) ∷ later i) ∙ ap (replay_of store) (sym all);
        clean = subst (Clean last owners) ((λ i. store_after (next i) (served es)) ∙ ap (store_after store) (sym all)) rest.clean;
      }

pub static_cluster : StaticCluster
static_cluster first owners store [] last clean run clients = record {
  replies = tt;
  replay = refl;
  clean = subst (λ w. Clean w owners store) (sym run) clean;
}
static_cluster first owners store (Client seat n asking c r ∷ es) last clean run clients =
    let step = client_step first owners store n asking c r clean run.0.0 run.0.1 in
    let rest = static_cluster (after first (Client seat n asking c r)) owners (store_next store c r) es last step.clean run.1 clients in
    let is : IsStatic first owners store (Client seat n asking c r ∷ es) last = elim (cases_Bool (is_redirection r)) [
      | inl e ↦ told_first first owners store seat n asking c r es last step.reply e rest
      | inr e ↦ served_first first owners store seat n asking c r es last step.reply e (step.replay e) rest
    ] in
    is
static_cluster first owners store (Look seat n r ∷ es) last clean run clients =
    let rest = static_cluster first owners store es last clean run.1 clients in
    record { replies = rest.replies; replay = rest.replay; clean = rest.clean }
static_cluster first owners store (Admin n c r ∷ es) last clean run clients = absurd clients
