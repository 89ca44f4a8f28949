-- Whole runs with honest clients.
use Rattle.std.proofs.Common.{◌≡◌, ℕ, Bool, true, List, [], ◌∷◌, length, Option, None, sym, refl, ap, ◌∙◌, subst, subst₂, inl, inr}
use Rattle.std.proofs.lemmas.Bool.{cond-true, cond-false}
use Rattle.resp2_wire.specs.declared.reply.Reply.{Reply}
use Rattle.store_commands.specs.Store.{Key, Store}
use Rattle.store_commands.specs.Apply.{answer, apply}
use Rattle.client_commands.specs.declared.command.Command.{Command}
use Rattle.cluster_world.specs.Worlds.{World}
use Rattle.cluster_world.specs.Steps.{after}
use Rattle.cluster_world.specs.Servers.{ServerRun}
use Rattle.cluster_world.specs.Serving.{is_redirection, served, replay_of, store_after}
use Rattle.cluster_world.specs.declared.event.Event.{Event}
use Rattle.cluster_world.specs.declared.event.Event.TheVariants.{Client, Look, Admin}
use Rattle.cluster_world.proofs.Telling.{answered, redirect_told}
use Rattle.plan_language.specs.declared.plan_command.PlanCommand.{PlanCommand}
use Rattle.plan_semantics.specs.Plans.{final_owner}
use Rattle.plan_semantics.specs.Driving.{Remaining, remaining, Spelled, NoRefusal}
use Rattle.cluster_world.specs.AdminCalls.{calls}
use Rattle.cluster_world.specs.Honesty.{Honest, WasAsked, past_of}
use Rattle.cluster_admin.specs.Phases.{Phases}
use Rattle.reshard_theorem.proofs.Begins.{start}
use Rattle.reshard_theorem.proofs.Stops.{stopped_in, is_left_open}
use Rattle.reshard_theorem.proofs.Base.{Inv}
use Rattle.reshard_theorem.proofs.Admins.{AdminGood}
use Rattle.reshard_theorem.proofs.Slotwise.{IsClean}
use Rattle.reshard_theorem.proofs.Tables.{by_nodes, final_is}
use Rattle.plan_semantics.proofs.Unrolling.{spelled_by_whole}
use Rattle.reshard_theorem.proofs.Whole.{spelled, after_admin, finished}
use Rattle.reshard_theorem.proofs.Servers.{not_refused}
use Rattle.reshard_theorem.specs.ServerRuns.{IsDrivenServerRun, IsHonestServerRun, NoServerRefuses, ServersReplay, ServersAreOneStore, ServersEndClean, ServersLeaveOpen}
use Rattle.reshard_theorem.proofs.HonestClients.{client_step}
use Rattle.reshard_theorem.specs.Starts.{Reshard}

pub look_earlier : (port : ℕ) (past : List Event) (seat x : ℕ) (reply : Reply) (ks : List Key) (m : ℕ) → WasAsked port (Look seat x reply ∷ past) ks m → WasAsked port past ks m
look_earlier port past seat x reply ks m (inl u) = absurd u
look_earlier port past seat x reply ks m (inr u) = u.1

module _ (n : ℕ) (goal : ℕ → ℕ) where
  -- what holds after a run
  pub record Good (last : World) (rest : List PlanCommand) (listed : Option (List Key)) (store : Store) (before : List Event) (es : List Event) : Type 0 where
    pub inv : Inv n goal last (past_of before es) rest listed (store_after store (served es))
    pub replies : served es ≡ replay_of store (served es)
    pub no_refusal : NoRefusal (calls es)

  -- one more event that was served, and one that was not
  good_served : (past : List Event) (seat x : ℕ) (asking : Bool) (c : Command) (reply : Reply) (es : List Event) (last : World) (rest : List PlanCommand) (listed : Option (List Key)) (store : Store)
      → reply ≡ answer store c → Good last rest listed (apply store c) (Client seat x asking c reply ∷ past) es → Good last rest listed store past (Client seat x asking c reply ∷ es)
  good_served past seat x asking c reply es last rest listed store e g = record {
    inv = subst (λ l. Inv n goal last (past_of (Client seat x asking c reply ∷ past) es) rest listed (store_after store l)) (sym more) g.inv;
    replies = subst (λ l. l ≡ replay_of store l) (sym more) (λ i. (c, e i) ∷ g.replies i);
    no_refusal = g.no_refusal;
  }
    where
      more : served (Client seat x asking c reply ∷ es) ≡ (c, reply) ∷ served es
      more = cond-false _ _ _ (ap is_redirection e ∙ answered store c)

  good_told : (past : List Event) (seat x : ℕ) (asking : Bool) (c : Command) (reply : Reply) (es : List Event) (last : World) (rest : List PlanCommand) (listed : Option (List Key)) (store : Store)
      → is_redirection reply ≡ true → Good last rest listed store (Client seat x asking c reply ∷ past) es → Good last rest listed store past (Client seat x asking c reply ∷ es)
  good_told past seat x asking c reply es last rest listed store e g = record {
    inv = subst (λ l. Inv n goal last (past_of (Client seat x asking c reply ∷ past) es) rest listed (store_after store l)) (sym more) g.inv;
    replies = subst (λ l. l ≡ replay_of store l) (sym more) g.replies;
    no_refusal = g.no_refusal;
  }
    where
      more : served (Client seat x asking c reply ∷ es) ≡ served es
      more = cond-true _ _ _ e

  pub run_keeps : (es : List Event) (w last : World) (past : List Event) (plan rest : List PlanCommand) (listed listed' : Option (List Key)) (store : Store)
      → Inv n goal w past plan listed store → ServerRun w es last → Spelled (remaining plan listed) (calls es) (remaining rest listed') → Honest w past es → Good last rest listed' store past es
  run_keeps [] w last past plan rest listed listed' store inv run spelt honest = record {
    inv = subst₂ (λ p l. Inv n goal last past p l store) (sym spelt.0) (sym spelt.1) (subst (λ x. Inv n goal x past plan listed store) (sym run) inv);
    replies = refl;
    no_refusal = tt;
  }
  run_keeps (Client seat x asking c reply ∷ es) w last past plan rest listed listed' store inv run spelt honest =
      elim (client_step n goal w past plan listed store seat x asking c reply inv run.0 honest.0) [
        | inl u ↦ (let g : Good last rest listed' (apply store c) (Client seat x asking c reply ∷ past) es = run_keeps es (after w (Client seat x asking c reply)) last (Client seat x asking c reply ∷ past) plan rest listed listed' (apply store c) u.1 run.1 spelt honest.1 in
            good_served past seat x asking c reply es last rest listed' store u.0 g)
        | inr u ↦ (let g : Good last rest listed' store (Client seat x asking c reply ∷ past) es = run_keeps es (after w (Client seat x asking c reply)) last (Client seat x asking c reply ∷ past) plan rest listed listed' store u.3 run.1 spelt honest.1 in
            good_told past seat x asking c reply es last rest listed' store (ap is_redirection u.2 ∙ redirect_told w.base_port _ u.0 u.1) g)
      ]
  run_keeps (Look seat x reply ∷ es) w last past plan rest listed listed' store inv run spelt honest =
      let inv' : Inv n goal w (Look seat x reply ∷ past) plan listed store = record { base = inv.base; split = inv.split; lies = λ s. record { place = (inv.lies s).place; asked = λ ks m v. (inv.lies s).asked ks m (look_earlier w.base_port past seat x reply ks m v) } } in
      let g : Good last rest listed' store (Look seat x reply ∷ past) es = run_keeps es w last (Look seat x reply ∷ past) plan rest listed listed' store inv' run.1 spelt honest.1 in
      record { inv = g.inv; replies = g.replies; no_refusal = g.no_refusal }
  run_keeps (Admin r c reply ∷ es) w last past plan rest listed listed' store inv run spelt honest =
      let good : AdminGood n goal w past r c reply spelt.0.rest spelt.0.listed store = spelled n goal w past store plan listed r c reply spelt.0.rest spelt.0.listed inv run.0.1 spelt.1 in
      let inv' : Inv n goal (after w (Admin r c reply)) (Admin r c reply ∷ past) spelt.0.rest spelt.0.listed store = subst (λ x. Inv n goal x (Admin r c reply ∷ past) spelt.0.rest spelt.0.listed store) (sym (after_admin n goal w r c good.0)) good.1 in
      let g : Good last rest listed' store (Admin r c reply ∷ past) es = run_keeps es (after w (Admin r c reply)) last (Admin r c reply ∷ past) spelt.0.rest rest spelt.0.listed listed' store inv' run.1 spelt.2 honest.1 in
      record { inv = g.inv; replies = g.replies; no_refusal = (not_refused w r c reply run.0.1 good.0, g.no_refusal) }

-- ---- the laws

module _ (reshard : Reshard) (events : List Event) (last : World) (left : Remaining) where
  at_first : IsDrivenServerRun reshard events last left → Inv (length reshard.first.nodes) (final_owner reshard.plan reshard.phases) reshard.first reshard.before reshard.plan None reshard.store
  at_first d = start reshard d.starts

  pub good : (m : IsHonestServerRun reshard events last left) → Good (length reshard.first.nodes) (final_owner reshard.plan reshard.phases) last left.rest left.listed reshard.store reshard.before events
  good m = run_keeps (length reshard.first.nodes) (final_owner reshard.plan reshard.phases) events reshard.first last reshard.before reshard.plan left.rest None left.listed reshard.store (at_first m.drives) m.drives.run m.drives.driven.0 m.honest

pub no_command_refused : NoServerRefuses
no_command_refused reshard events last left m = (good reshard events last left m).no_refusal

pub replies_replay : ServersReplay
replies_replay reshard events last left m = (good reshard events last left m).replies

pub one_store : ServersAreOneStore
one_store reshard events last left m = (good reshard events last left m).inv.split

pub leaves_open : ServersLeaveOpen
leaves_open reshard events last left m =
    let g = good reshard events last left m in (
      stopped_in (length reshard.first.nodes) (final_owner reshard.plan reshard.phases) last (past_of reshard.before events) left.rest left.listed (store_after reshard.store (served events)) g.inv,
      is_left_open (length reshard.first.nodes) (final_owner reshard.plan reshard.phases) last (past_of reshard.before events) left.rest left.listed (store_after reshard.store (served events)) g.inv,
    )

pub clean_end : ServersEndClean
clean_end final reshard events last left m whole f =
    let n : ℕ = length reshard.first.nodes in
    let d : IsDrivenServerRun reshard events last left = m.drives in
    let spelt : Spelled (remaining reshard.plan None) (calls events) (remaining [] None) = spelled_by_whole reshard.plan (calls events) whole in
    let g : Good n (final_owner reshard.plan reshard.phases) last [] None reshard.store reshard.before events = run_keeps n (final_owner reshard.plan reshard.phases) events reshard.first last reshard.before reshard.plan [] None None reshard.store (start reshard d.starts) d.run spelt m.honest in
    let c : IsClean last n (final_owner reshard.plan reshard.phases) (store_after reshard.store (served events)) = finished n (final_owner reshard.plan reshard.phases) last (past_of reshard.before events) (store_after reshard.store (served events)) g.inv in
    by_nodes last n final (final_owner reshard.plan reshard.phases) (store_after reshard.store (served events)) f.width (final_is last n reshard.plan reshard.phases final (store_after reshard.store (served events)) c f) c
