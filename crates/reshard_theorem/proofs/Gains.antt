-- Runs that a plan drives, whatever the clients do: a source gains no key.
use Rattle.std.proofs.Common.{◌≡◌, ◌≢◌, ℕ, ◌<◌, Bool, true, false, cond, eqb, List, [], ◌∷◌, length, Option, Some, None, is_some, sym, refl, ap, ◌∙◌, subst, subst₂, inl, inr}
use Rattle.std.proofs.lemmas.Bool.{cases_Bool, cases_eq, true≢false, ne_eqb, eqb-true, cond-true, cond-false}
use Rattle.key_slots.specs.HashSlot.{slot_of}
use Rattle.typed_values.specs.declared.value.Value.{Value}
use Rattle.resp2_wire.specs.declared.reply.Reply.{Reply}
use Rattle.store_commands.specs.Store.{Key, Store, is_named}
use Rattle.client_commands.specs.Commands.{keys}
use Rattle.client_commands.specs.declared.command.Command.{Command}
use Rattle.slot_marks.specs.Verdicts.{first_slot}
use Rattle.slot_marks.specs.declared.verdict.Verdict.TheVariants.{Serve}
use Rattle.cluster_node.specs.Nodes.{is_serve}
use Rattle.cluster_admin.specs.declared.admin.AdminFault.{AdminFault}
use Rattle.cluster_admin.specs.declared.admin.AdminCommand.{AdminCommand}
use Rattle.cluster_admin.specs.declared.admin.AdminCommand.TheVariants as command
use Rattle.cluster_admin.specs.declared.admin.AdminReply.{AdminReply}
use Rattle.cluster_world.specs.Worlds.{World, verdict, owner, migrating, importing, held}
use Rattle.cluster_world.specs.Commanding.{admin_fault, effect, admin_after}
use Rattle.cluster_world.specs.Steps.{after, Answers}
use Rattle.cluster_world.specs.declared.event.Event.{Event}
use Rattle.cluster_world.specs.declared.event.Event.TheVariants.{Client, Look, Admin}
use Rattle.plan_language.specs.declared.plan_command.PlanCommand.{PlanCommand}
use Rattle.plan_language.specs.declared.plan_command.PlanCommand.TheVariants as planned
use Rattle.plan_semantics.specs.Plans.{final_owner}
use Rattle.plan_semantics.specs.Driving.{Remaining, remaining, called, Spells, Spelled}
use Rattle.cluster_world.specs.AdminCalls.{calls}
use Rattle.reshard_theorem.proofs.Phases.{Phase, Closed, Importing, Migrating, Drained, TargetTold, SourceTold, goes_in, comes_in, Rest, named_slot, none_cond}
use Rattle.reshard_theorem.proofs.Verdicts.{ServedBy, served_by}
use Rattle.reshard_theorem.proofs.Base.{Base}
use Rattle.reshard_theorem.proofs.Admins.{Calm, Batch, import_step, send_step, list_none_step, list_some_step, migrate_step, tell_step, stable_step}
use Rattle.cluster_admin.specs.Phases.{Phases}
use Rattle.reshard_theorem.proofs.Begins.{start}
use Rattle.reshard_theorem.proofs.Whole.{after_admin}
use Rattle.reshard_theorem.proofs.Servers.{listing_keys}
use Rattle.cluster_world.specs.Servers.{MayReply, ServerRun}
use Rattle.reshard_theorem.specs.DrivenRuns.{GainsNone, NeverGains}
use Rattle.reshard_theorem.specs.ServerRuns.{IsDrivenServerRun, ServersGainNothing}
use Rattle.reshard_theorem.proofs.Served.{served_world, served_elsewhere, served_unnamed}
use Rattle.reshard_theorem.proofs.Clients.{has_all, client_base, after_served, after_told, is_serve_Serve}
use Rattle.reshard_theorem.specs.Starts.{Reshard}

pub some_fault : (w : World) (r : ℕ) (c : AdminCommand) → is_some (admin_fault w r c) ≡ true → admin_after w r c ≡ w
unfolding admin_after
some_fault w r c e = cond-true _ _ _ e

pub none_fault : (o : Option AdminFault) → is_some o ≡ false → o ≡ None
none_fault None e = refl
none_fault (Some k) e = absurd (true≢false e)

module _ (n : ℕ) (goal : ℕ → ℕ) where
  -- what an administrative step of the plan leaves: the invariant, and what each node held but what a batch took along
  pub record Turned (w : World) (r : ℕ) (c : AdminCommand) (rest : List PlanCommand) (listed : Option (List Key)) : Type 0 where
    pub base : Base n goal (admin_after w r c) rest listed
    pub gains : GainsNone w (admin_after w r c)

  calm_turned : (w : World) (plan rest : List PlanCommand) (listed listed' : Option (List Key)) (r s : ℕ) (c : AdminCommand) (passes : Bool) (b : Base n goal w plan listed) → Calm n goal w plan rest listed listed' b r c s passes → Turned w r c rest listed'
  calm_turned w plan rest listed listed' r s c passes b calm = record {
    base = subst (λ x. Base n goal x rest listed') (sym there) calm.next.0;
    gains = λ node t k o g i h. ap (λ x. held x node k) there ∙ calm.same node k ∙ h;
  }
    where
      there : admin_after w r c ≡ effect w r c
      there = after_admin n goal w r c calm.no_fault

  batch_turned : (w : World) (plan : List PlanCommand) (s o t b : ℕ) (ks : List Key) (base : Base n goal w (planned.Drain s o t b ∷ plan) (Some ks)) → Batch n goal w plan s o t b ks base → Turned w o (command.Migrate ks t) (planned.Drain s o t b ∷ plan) None
  batch_turned w plan s o t b ks base batch = elim (cases_Bool (is_some (admin_fault w o (command.Migrate ks t)))) [
    | inl u ↦ record {
      base = subst (λ x. Base n goal x (planned.Drain s o t b ∷ plan) None) (sym (some_fault w o (command.Migrate ks t) u)) (record { size = base.size; widths = base.widths; marks = base.marks; emptied = base.emptied; listing = tt });
      gains = λ node v k p g i h. ap (λ x. held x node k) (some_fault w o (command.Migrate ks t) u) ∙ h;
    }
    | inr u ↦ record {
      base = subst (λ x. Base n goal x (planned.Drain s o t b ∷ plan) None) (sym (there u)) batch.next.0;
      gains = λ node v k p g i h. ap (λ x. held x node k) (there u) ∙ gain node v k p g i h;
    }
  ]
    where
      there : is_some (admin_fault w o (command.Migrate ks t)) ≡ false → admin_after w o (command.Migrate ks t) ≡ effect w o (command.Migrate ks t)
      there u = after_admin n goal w o (command.Migrate ks t) (none_fault _ u)

      none_cond' : (c : Bool) (v : Option Value) → v ≡ None → cond c None v ≡ None
      none_cond' true v e = refl
      none_cond' false v e = e

      -- the target has no migrating mark of the slot
      no_mark : (migrating w t s) ≡ None
      no_mark = (base.marks s).going t ∙ ap (λ f. goes_in f t) batch.was ∙ cond-false _ _ _ (ne_eqb t o (λ e. batch.apart (sym e)))

      gain : (node v : ℕ) (k : Key) → owner w node v ≡ node → migrating w node v ≢ None → slot_of k ≡ v → held w node k ≡ None → held (effect w o (command.Migrate ks t)) node k ≡ None
      gain node v k p g i h = elim (cases_eq v s) [
        | inl e ↦ elim (cases_eq node o) [
          | inl f ↦ subst (λ y. held (effect w o (command.Migrate ks t)) y k ≡ None) (sym f) (batch.at_source k ∙ none_cond' (is_named k ks) (held w o k) (subst (λ y. held w y k ≡ None) f h))
          | inr f ↦ elim (cases_eq node t) [
            | inl j ↦ absurd (g (ap (migrating w node) e ∙ ap (λ y. migrating w y s) j ∙ no_mark))
            | inr j ↦ batch.elsewhere node k f j ∙ h
          ]
        ]
        | inr e ↦ batch.others node k (λ f. e (sym i ∙ f)) ∙ h
      ]

  turned_over : (w : World) (r r' : ℕ) (c c' : AdminCommand) (rest rest' : List PlanCommand) (listed listed' : Option (List Key))
      → r ≡ r' → c ≡ c' → rest ≡ rest' → listed ≡ listed' → Turned w r' c' rest' listed' → Turned w r c rest listed
  turned_over w r r' c c' rest rest' listed listed' p q t u h =
      subst (λ a. Turned w a c rest listed) (sym p) (subst (λ a. Turned w r' a rest listed) (sym q) (subst (λ a. Turned w r' c' a listed) (sym t) (subst (λ a. Turned w r' c' rest' a) (sym u) h)))

  pub turned : (w : World) (plan : List PlanCommand) (listed : Option (List Key)) (r : ℕ) (c : AdminCommand) (reply : AdminReply) (rest : List PlanCommand) (listed' : Option (List Key))
      → Base n goal w plan listed → MayReply w r c reply → Spells (remaining plan listed) (called r c reply) (remaining rest listed') → Turned w r c rest listed'
  turned w [] listed r c reply rest listed' b e h = absurd h
  turned w (planned.Importing s m at ∷ plan) None r c reply rest listed' b e h = turned_over w r at c (command.Importing s m) rest plan listed' None h.0 h.1 h.2 h.3 (calm_turned w (planned.Importing s m at ∷ plan) plan None None at s (command.Importing s m) false b (import_step n goal w plan s m at b))
  turned w (planned.Importing s m at ∷ plan) (Some ks) r c reply rest listed' b e h = absurd h
  turned w (planned.Migrating s m at ∷ plan) None r c reply rest listed' b e h = turned_over w r at c (command.Migrating s m) rest plan listed' None h.0 h.1 h.2 h.3 (calm_turned w (planned.Migrating s m at ∷ plan) plan None None at s (command.Migrating s m) false b (send_step n goal w plan s m at b))
  turned w (planned.Migrating s m at ∷ plan) (Some ks) r c reply rest listed' b e h = absurd h
  turned w (planned.SetNode s m at ∷ plan) None r c reply rest listed' b e h = turned_over w r at c (command.SetNode s m) rest plan listed' None h.0 h.1 h.2 h.3 (calm_turned w (planned.SetNode s m at ∷ plan) plan None None at s (command.SetNode s m) false b (tell_step n goal w plan s m at b))
  turned w (planned.Stable s at ∷ plan) None r c reply rest listed' b e h = turned_over w r at c (command.Stable s) rest plan listed' None h.0 h.1 h.2 h.3 (calm_turned w (planned.Stable s at ∷ plan) plan None None at s (command.Stable s) false b (stable_step n goal w plan s at b))
  turned w (planned.SetNode s m at ∷ plan) (Some ks) r c reply rest listed' b e h = absurd h
  turned w (planned.Stable s at ∷ plan) (Some ks) r c reply rest listed' b e h = absurd h
  turned w (planned.Drain s m t d ∷ plan) None r c reply rest listed' b e h = elim h.2 [
    | inl u ↦ turned_over w r m c (command.KeysIn s d) rest plan listed' None h.0 h.1 u.1 u.2
        (calm_turned w (planned.Drain s m t d ∷ plan) plan None None m s (command.KeysIn s d) true b (list_none_step n goal w plan s m t d b (listing_keys w r m s d c reply [] h.0 h.1 e u.0)))
    | inr u ↦ turned_over w r m c (command.KeysIn s d) rest (planned.Drain s m t d ∷ plan) listed' (Some (u.0 ∷ u.1)) h.0 h.1 u.3 u.4
        (calm_turned w (planned.Drain s m t d ∷ plan) (planned.Drain s m t d ∷ plan) None (Some (u.0 ∷ u.1)) m s (command.KeysIn s d) false b (list_some_step n goal w plan s m t d u.0 u.1 b (listing_keys w r m s d c reply (u.0 ∷ u.1) h.0 h.1 e u.2)))
  ]
  turned w (planned.Drain s m t d ∷ plan) (Some ks) r c reply rest listed' b e h = turned_over w r m c (command.Migrate ks t) rest (planned.Drain s m t d ∷ plan) listed' None h.0 h.1 h.2 h.3 (batch_turned w plan s m t d ks b (migrate_step n goal w plan s m t d ks b))

  -- a node with a migrating mark has no importing one
  no_import : (s : ℕ) (phase : Phase) (rest : List PlanCommand) (m : ℕ) → Rest n (goal s) s phase rest → goes_in phase m ≢ None → comes_in phase m ≡ None
  no_import s (Closed o) rest m left g = refl
  no_import s (Importing o t) rest m left g = absurd (g refl)
  no_import s (Migrating o t) rest m left g = cond-false _ _ _ (ne_eqb m t (λ e. left.ends.apart (sym (eqb-true m o (none_cond (eqb m o) t g)) ∙ e)))
  no_import s (Drained o t) rest m left g = cond-false _ _ _ (ne_eqb m t (λ e. left.ends.apart (sym (eqb-true m o (none_cond (eqb m o) t g)) ∙ e)))
  no_import s (TargetTold o t) rest m left g = refl
  no_import s (SourceTold o t told) rest m left g = refl

  client_gains : (w : World) (plan : List PlanCommand) (listed : Option (List Key)) (x : ℕ) (asking : Bool) (c : Command) → Base n goal w plan listed → x < length w.nodes → ServedBy w x asking (keys c) → GainsNone w (served_world w x c)
  client_gains w plan listed x asking c b inside by node s k own mark slot none = elim (cases_Bool (is_named k (keys c))) [
    | inl u ↦ elim (cases_eq node x) [
      | inl v ↦ (let at : first_slot (keys c) ≡ s = sym (named_slot (keys c) by.one_slot k u) ∙ slot in
          let m : migrating w x (first_slot (keys c)) ≢ None = λ e. mark (ap (λ y. migrating w y s) v ∙ ap (migrating w x) (sym at) ∙ e) in
          let i : importing w x (first_slot (keys c)) ≡ None = (b.marks (first_slot (keys c))).coming x ∙ no_import (first_slot (keys c)) (b.marks (first_slot (keys c))).phase _ x (b.marks (first_slot (keys c))).left (λ e. m ((b.marks (first_slot (keys c))).going x ∙ e)) in
          absurd (true≢false (sym (has_all w x asking (keys c) by i m k u) ∙ ap is_some (subst (λ y. held w y k ≡ None) v none))))
      | inr v ↦ served_elsewhere w x c inside node k v ∙ none
    ]
    | inr u ↦ served_unnamed w x c inside node k u ∙ none
  ]

  pub client_gain : (w : World) (plan : List PlanCommand) (listed : Option (List Key)) (seat x : ℕ) (asking : Bool) (c : Command) (reply : Reply) → Base n goal w plan listed → Answers w (Client seat x asking c reply) → GainsNone w (after w (Client seat x asking c reply))
  client_gain w plan listed seat x asking c reply b answers = elim (cases_Bool (is_serve (verdict w x asking (keys c)))) [
    | inl u ↦ (let e : verdict w x asking (keys c) ≡ Serve = is_serve_Serve _ u in
        subst (λ y. GainsNone w y) (sym (after_served w x asking c e)) (client_gains w plan listed x asking c b answers.0 (served_by w x asking (keys c) e)))
    | inr u ↦ subst (λ y. GainsNone w y) (sym (after_told w x asking c answers.0 u)) (λ node s k own mark slot none. none)
  ]

  pub record Drove (first last : World) (rest : List PlanCommand) (listed : Option (List Key)) (es : List Event) : Type 0 where
    pub base : Base n goal last rest listed
    pub gains : NeverGains first es

  pub run_base : (es : List Event) (w last : World) (plan rest : List PlanCommand) (listed listed' : Option (List Key)) → Base n goal w plan listed → ServerRun w es last → Spelled (remaining plan listed) (calls es) (remaining rest listed') → Drove w last rest listed' es
  run_base [] w last plan rest listed listed' b run spelt = record {
    base = subst₂ (λ p l. Base n goal last p l) (sym spelt.0) (sym spelt.1) (subst (λ x. Base n goal x plan listed) (sym run) b);
    gains = tt;
  }
  run_base (Client seat x asking c reply ∷ es) w last plan rest listed listed' b run spelt =
      let new = client_base n goal w plan listed seat x asking c reply b run.0 in
      let d : Drove (after w (Client seat x asking c reply)) last rest listed' es = run_base es (after w (Client seat x asking c reply)) last plan rest listed listed' new.0 run.1 spelt in
      record { base = d.base; gains = (client_gain w plan listed seat x asking c reply b run.0, d.gains) }
  run_base (Look seat x reply ∷ es) w last plan rest listed listed' b run spelt =
      let d : Drove w last rest listed' es = run_base es w last plan rest listed listed' b run.1 spelt in
      record { base = d.base; gains = (λ node s k own mark slot none. none, d.gains) }
  run_base (Admin r c reply ∷ es) w last plan rest listed listed' b run spelt =
      let t : Turned w r c spelt.0.rest spelt.0.listed = turned w plan listed r c reply spelt.0.rest spelt.0.listed b run.0.1 spelt.1 in
      let d : Drove (admin_after w r c) last rest listed' es = run_base es (admin_after w r c) last spelt.0.rest rest spelt.0.listed listed' t.base run.1 spelt.2 in
      record { base = d.base; gains = (t.gains, d.gains) }

module _ (reshard : Reshard) (events : List Event) (last : World) (left : Remaining)
    (run : IsDrivenServerRun reshard events last left) where
  pub first_base : Base (length reshard.first.nodes) (final_owner reshard.plan reshard.phases) reshard.first reshard.plan None
  first_base = (start reshard run.starts).base

  pub drove : Drove (length reshard.first.nodes) (final_owner reshard.plan reshard.phases) reshard.first last left.rest left.listed events
  drove = run_base (length reshard.first.nodes) (final_owner reshard.plan reshard.phases) events reshard.first last reshard.plan left.rest None left.listed first_base run.run run.driven.0

pub source_gains_nothing : ServersGainNothing
source_gains_nothing reshard events last left run = (drove reshard events last left run).gains
