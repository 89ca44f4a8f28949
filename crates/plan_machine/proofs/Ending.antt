-- A plan that is run over a world: each reply is one that the plan continues by, until it is done or memory runs out.
use Rattle.std.proofs.Common.{◌≡◌, ◌≢◌, ◌⊎◌, ℕ, suc, ◌+◌, ◌<◌, ◌≤◌, ◌++◌, subst₂, length-append, Bool, true, false, cond, List, [], ◌∷◌, length, take, Option, Some, None, is_some, sym, refl, ap, ◌∙◌, subst, arith, inl, inr}
use Rattle.std.proofs.lemmas.Bool.{true≢false, ne_eqb}
use Rattle.std.specs.List.{list_any}
use Rattle.cluster_admin.specs.Keys.{Key}
use Rattle.store_commands.specs.Store.{Store}
use Rattle.slot_keyspace.specs.Listing.{keys_of}
use Rattle.cluster_node.specs.Nodes.{is_present}
use Rattle.cluster_node.specs.Administration.{reply_if_accepted, reply_or, setting_fault}
use Rattle.cluster_admin.specs.declared.admin.AdminCommand.{AdminCommand}
use Rattle.cluster_admin.specs.declared.admin.AdminCommand.TheVariants.{Importing, Migrating, SetNode, Stable, Migrate}
use Rattle.cluster_admin.specs.declared.admin.AdminReply.{AdminReply}
use Rattle.cluster_admin.specs.declared.admin.AdminReply.TheVariants.{Ok, NoKey, Keys, Refused}
use Rattle.cluster_world.specs.Worlds.{World, node_at}
use Rattle.cluster_world.specs.Commanding.{admin_fault, effect, admin_reply}
use Rattle.cluster_world.specs.Steps.{Run, by_call}
use Rattle.cluster_world.specs.Cleanness.{Clean, HasTable}
use Rattle.cluster_admin.specs.declared.call.AdminCall.{AdminCall}
use Rattle.cluster_world.specs.declared.event.Event.{Event}
use Rattle.cluster_world.specs.declared.event.Event.TheVariants.{Admin}
use Rattle.plan_language.specs.declared.plan_command.PlanCommand.{PlanCommand}
use Rattle.plan_language.specs.declared.plan_command.PlanCommand.TheVariants as planned
use Rattle.plan_semantics.specs.declared.order.Order.{Order}
use Rattle.plan_runner.specs.declared.plan_state.PlanState.{PlanState}
use Rattle.plan_runner.specs.declared.plan_state.PlanState.TheVariants.{Running, Done, Stopped}
use Rattle.plan_runner.specs.declared.stop_cause.StopCause.TheVariants as causes
use Rattle.plan_semantics.specs.Plans.{final_owner}
use Rattle.reshard_theorem.specs.Starts.{Reshard, Starts}
use Rattle.plan_semantics.specs.Unrolling.{Unrolls}
use Rattle.plan_semantics.proofs.Unrolling.{spelled_by_whole, whole_by_spelled}
use Rattle.cluster_world.specs.Servers.{MayReply}
use Rattle.cluster_world.proofs.Recording.{run_on}
use Rattle.reshard_theorem.specs.DrivenRuns.{IsDrivenRun}
use Rattle.reshard_theorem.proofs.Begins.{start}
use Rattle.reshard_theorem.proofs.Landed.{no_command_refused, quiet_reshard}
use Rattle.reshard_theorem.proofs.Nexts.{calls-append, driven_more, spells_same}
use Rattle.reshard_theorem.proofs.QuietCosts.{quiet_cost_is, quiet_more, stays_below_quiet_cost}
use Rattle.reshard_theorem.proofs.Quietly.{quiet_honest}
use Rattle.reshard_theorem.proofs.Servers.{listing_reply, world_may_reply}
use Rattle.plan_runner.specs.Listings.{is_listing}
use Rattle.plan_runner.specs.ProgressView.{Progress, Waits, at_start, left_of}
use Rattle.plan_semantics.specs.Orders.{sending}
use Rattle.plan_runner.specs.PlanStates.{Left, after, plan_with, progress_at, plan_after}
use Rattle.plan_runner.specs.Advancing.{waits, runs_on, Goes, IsNext, stopped_by, IsPending, FaultShown}
use Rattle.cluster_world.specs.Ports.{IsAdminFault}
use Rattle.cluster_admin.specs.declared.port_fault.PortFault.{PortFault}
use Rattle.cluster_admin.specs.declared.port_fault.PortFault.TheVariants as fault
use Rattle.byte_texts.specs.Outcomes.{Chain}
use Rattle.cluster_world.specs.AdminCalls.{calls}
use Rattle.plan_semantics.specs.Driving.{NoRefusal, Remaining, Spells, Spelled, called, is_refused, remaining, whole}
use Rattle.plan_runner.specs.Finishing.{IsOpen}
use Rattle.reshard_theorem.specs.QuietRuns.{NoClients, quiet_cost}
use Rattle.plan_machine.specs.Quiet.{events_of, IsDoneQuietly, RunsQuietly, CleanIsUnmarked}
use Rattle.reshard_theorem.proofs.Base.{Inv}
use Rattle.reshard_theorem.proofs.Admins.{AdminGood, batch_good, import_step, send_step, migrate_step, tell_step}
use Rattle.reshard_theorem.proofs.Whole.{after_admin, spelled}
use Rattle.plan_machine.proofs.Listed.{listed as is_listed}
use Rattle.plan_runner.proofs.Spelling.{some_is, spells_after, done_spelt}

-- ---- a reply by which the plan continues

-- what is left after the reply
abbrev GoesOn : List PlanCommand → Option (List Key) → AdminReply → Type 0
GoesOn plan listed reply = (left : Left) × (after plan (is_some listed) reply ≡ Some left) × (is_refused reply ≡ false)

fine_import : (w : World) (r s m : ℕ) → admin_fault w r (Importing s m) ≡ None → admin_reply w r (Importing s m) ≡ Ok
unfolding admin_reply reply_if_accepted
fine_import w r s m e = ap (λ o. reply_or o Ok) e

fine_send : (w : World) (r s m : ℕ) → admin_fault w r (Migrating s m) ≡ None → admin_reply w r (Migrating s m) ≡ Ok
unfolding admin_reply reply_if_accepted
fine_send w r s m e = ap (λ o. reply_or o Ok) e

fine_tell : (w : World) (r s m : ℕ) → admin_fault w r (SetNode s m) ≡ None → admin_reply w r (SetNode s m) ≡ Ok
unfolding admin_reply reply_if_accepted
fine_tell w r s m e = ap (λ o. reply_or o Ok) e

fine_migrate : (w : World) (r : ℕ) (ks : List Key) (m : ℕ) → admin_fault w r (Migrate ks m) ≡ None → admin_reply w r (Migrate ks m) ≡ cond (list_any (is_present (node_at w r)) ks) Ok NoKey
unfolding admin_reply reply_if_accepted
fine_migrate w r ks m e = ap (λ o. reply_or o (cond (list_any (is_present (node_at w r)) ks) Ok NoKey)) e

fine_stable : (w : World) (r s : ℕ) → admin_reply w r (Stable s) ≡ Ok
unfolding admin_reply admin_fault setting_fault reply_if_accepted
fine_stable w r s = refl

on_fine : (o : PlanCommand) (plan : List PlanCommand) (reply : AdminReply) → after (o ∷ plan) false Ok ≡ Some (plan, None) → reply ≡ Ok → GoesOn (o ∷ plan) None reply
on_fine o plan reply h is = ((plan, None), ap (after (o ∷ plan) false) is ∙ h, ap is_refused is)

on_moved : (s m t b : ℕ) (plan : List PlanCommand) (ks : List Key) (some : Bool) → GoesOn (planned.Drain s m t b ∷ plan) (Some ks) (cond some Ok NoKey)
on_moved s m t b plan ks true = ((planned.Drain s m t b ∷ plan, None), refl, refl)
on_moved s m t b plan ks false = ((planned.Drain s m t b ∷ plan, None), refl, refl)

on_listed : (s m t b : ℕ) (plan : List PlanCommand) (ks : List Key) → is_listing s b ks ≡ true → GoesOn (planned.Drain s m t b ∷ plan) None (Keys ks)
on_listed s m t b plan [] e = ((plan, None), refl, refl)
on_listed s m t b plan (k ∷ ks) e = ((planned.Drain s m t b ∷ plan, Some (k ∷ ks)), ap (λ c. cond c (Some (let l : Left = (planned.Drain s m t b ∷ plan, Some (k ∷ ks)) in l)) None) e, refl)

none_sent : {o : Order} → None ≡ Some o → ⊥
none_sent e = cc

module _ (n : ℕ) (goal : ℕ → ℕ) where
  answered : (w : World) (past : List Event) (store : Store) (plan : List PlanCommand) (listed : Option (List Key)) (o : Order) (reply : AdminReply) → Inv n goal w past plan listed store
      → sending plan listed ≡ Some o → reply ≡ admin_reply w o.node o.command → GoesOn plan listed reply
  answered w past store [] listed o reply inv e i = absurd (none_sent e)
  answered w past store (planned.Importing s m at ∷ plan) (Some ks) o reply inv e i = absurd inv.base.listing
  answered w past store (planned.Migrating s m at ∷ plan) (Some ks) o reply inv e i = absurd inv.base.listing
  answered w past store (planned.SetNode s m at ∷ plan) (Some ks) o reply inv e i = absurd inv.base.listing
  answered w past store (planned.Stable s at ∷ plan) (Some ks) o reply inv e i = absurd inv.base.listing
  answered w past store (planned.Importing s m at ∷ plan) None o reply inv e i =
      on_fine (planned.Importing s m at) plan reply refl (subst (λ x. reply ≡ admin_reply w x.node x.command) (sym (some_is e)) i ∙ fine_import w at s m (import_step n goal w plan s m at inv.base).no_fault)
  answered w past store (planned.Migrating s m at ∷ plan) None o reply inv e i =
      on_fine (planned.Migrating s m at) plan reply refl (subst (λ x. reply ≡ admin_reply w x.node x.command) (sym (some_is e)) i ∙ fine_send w at s m (send_step n goal w plan s m at inv.base).no_fault)
  answered w past store (planned.SetNode s m at ∷ plan) None o reply inv e i =
      on_fine (planned.SetNode s m at) plan reply refl (subst (λ x. reply ≡ admin_reply w x.node x.command) (sym (some_is e)) i ∙ fine_tell w at s m (tell_step n goal w plan s m at inv.base).no_fault)
  answered w past store (planned.Stable s at ∷ plan) None o reply inv e i =
      on_fine (planned.Stable s at) plan reply refl (subst (λ x. reply ≡ admin_reply w x.node x.command) (sym (some_is e)) i ∙ fine_stable w at s)
  answered w past store (planned.Drain s m t b ∷ plan) None o reply inv e i =
      let is : reply ≡ Keys (take b (keys_of (node_at w m).held s)) = subst (λ x. reply ≡ admin_reply w x.node x.command) (sym (some_is e)) i ∙ listing_reply w m s b in
      subst (GoesOn (planned.Drain s m t b ∷ plan) None) (sym is) (on_listed s m t b plan (take b (keys_of (node_at w m).held s)) (is_listed (node_at w m).held s b))
  answered w past store (planned.Drain s m t b ∷ plan) (Some ks) o reply inv e i =
      let good : AdminGood n goal w past m (Migrate ks t) reply (planned.Drain s m t b ∷ plan) None store = batch_good n goal w past plan store reply s m t b ks inv (migrate_step n goal w plan s m t b ks inv.base) in
      let is : reply ≡ cond (list_any (is_present (node_at w m)) ks) Ok NoKey = subst (λ x. reply ≡ admin_reply w x.node x.command) (sym (some_is e)) i ∙ fine_migrate w m ks t good.0 in
      subst (GoesOn (planned.Drain s m t b ∷ plan) (Some ks)) (sym is) (on_moved s m t b plan ks (list_any (is_present (node_at w m)) ks))

-- ---- and then

plan_after_left : (w : Waits) (reply : AdminReply) (left : Left) → is_refused reply ≡ false → after w.rest w.open_still reply ≡ Some left → plan_after w reply ≡ progress_at w.nodes left (w.spent + 1) w.most
plan_after_left w (Refused fault) left r e = absurd (true≢false r)
plan_after_left w Ok left r e = ap (λ o. plan_with w.nodes o (w.spent + 1) w.most) e
plan_after_left w NoKey left r e = ap (λ o. plan_with w.nodes o (w.spent + 1) w.most) e
plan_after_left w (Keys ks) left r e = ap (λ o. plan_with w.nodes o (w.spent + 1) w.most) e

-- done, or stopped by a fault of the port
abbrev EndsBy : ℕ → PlanState → Type 0
EndsBy taken end = (end ≡ Done taken) ⊎ ((f : PortFault) × (end ≡ Stopped (stopped_by f) taken))

one_more : (spent : ℕ) (cs : List AdminCall) (end : PlanState) (c : AdminCall) → EndsBy (spent + 1 + length cs) end → EndsBy (spent + length (c ∷ cs)) end
one_more spent cs end c h = subst (λ k. EndsBy k end) (plus spent (length cs)) h
  where
    plus : (a b : ℕ) → a + 1 + b ≡ a + suc b
    plus a b = omega arith

-- what calls leave is determined
spelled_once : (cs : List AdminCall) (first other a b : Remaining) → first.rest ≡ other.rest → first.listed ≡ other.listed → Spelled first cs a → Spelled other cs b → a.rest ≡ b.rest
spelled_once [] first other a b e f g h = g.0 ∙ e ∙ sym h.0
spelled_once (c ∷ cs) first other a b e f g h =
    let same = spells_same other.rest other.listed c.node c.command c.reply g.0.rest h.0.rest g.0.listed h.0.listed (subst₂ (λ p l. Spells (remaining p l) c g.0) e f g.1) h.1 in
    spelled_once cs g.0 h.0 a b same.0 same.1 g.2 h.2

cons_none : (o : PlanCommand) (rest : List PlanCommand) → o ∷ rest ≡ [] → ⊥
cons_none o rest e = cc

-- a plan of which something is left was not carried out whole
not_whole : (plan : List PlanCommand) (cs : List AdminCall) (left : Remaining) → Spelled (whole plan) cs left → left.rest ≢ [] → Unrolls plan cs → ⊥
not_whole plan cs left spelt some unrolls = some (spelled_once cs (whole plan) (whole plan) left (whole []) refl refl spelt (spelled_by_whole plan cs unrolls))

module _ (reshard : Reshard) (starts : Starts reshard) where
  abbrev here : ℕ
  here = length reshard.first.nodes

  abbrev goal : ℕ → ℕ
  goal = final_owner reshard.plan reshard.phases

  -- the events so far, by which the plan came to this progress in this world
  record SoFar (es : List Event) (w : World) (past : List Event) (p : Progress) : Type 0 where
    inv : Inv here goal w past p.rest p.listed reshard.store
    drives : IsDrivenRun reshard es w (left_of p)
    quiet : NoClients es
    taken : p.spent ≡ length (calls es)
    room : quiet_cost reshard.store reshard.plan ≤ p.most
    drains : IsOpen p.rest p.listed

  -- a plan that continues has room for one more
  has_room : (es : List Event) (w : World) (left : Remaining) (spent most : ℕ) → IsDrivenRun reshard es w left → NoClients es → spent ≡ length (calls es)
      → quiet_cost reshard.store reshard.plan ≤ most → left.rest ≢ [] → spent ≢ most
  has_room es w left spent most d quiet taken room some e =
      let below : length (calls es) < quiet_cost reshard.store reshard.plan = stays_below_quiet_cost reshard es w left d quiet (not_whole reshard.plan (calls es) left d.driven.0 some) in
      omega (arith, below, room, taken, e)

  -- the events with one more call
  record Next (es : List Event) (c : AdminCall) (next : World) (past : List Event) (left : Left) : Type 0 where
    inv : Inv here goal next past left.0 left.1 reshard.store
    drives : IsDrivenRun reshard (es ++ Admin c.node c.command c.reply ∷ []) next (remaining left.0 left.1)
    drains : IsOpen left.0 left.1

  next_is : (es : List Event) (w next : World) (past : List Event) (p : Progress) (c : AdminCall) → SoFar es w past p → IsNext p c → by_call w c next
      → (left : Left) × (after p.rest (is_some p.listed) c.reply ≡ Some left) × (is_refused c.reply ≡ false) × Next es c next (Admin c.node c.command c.reply ∷ past) left
  next_is es w next past p c s is step =
      let reply_is : c.reply ≡ admin_reply w is.0.node is.0.command = step.0.1 ∙ (λ i. admin_reply w (is.2 i) (is.3 i)) in
      let a = answered here goal w past reshard.store p.rest p.listed is.0 c.reply s.inv is.1 reply_is in
      let t = spells_after p.rest p.listed is.0 c.reply a.0 s.drains is.1 a.1 in
      let spells : Spells (left_of p) c (remaining a.0.0 a.0.1) = subst (λ x. Spells (left_of p) (called x c.command c.reply) (remaining a.0.0 a.0.1)) (sym is.2)
      (subst (λ x. Spells (left_of p) (called is.0.node x c.reply) (remaining a.0.0 a.0.1)) (sym is.3) t.0) in
      let may : MayReply w c.node c.command c.reply = subst (MayReply w c.node c.command) (sym step.0.1) (world_may_reply w c.node c.command) in
      let good : AdminGood here goal w past c.node c.command c.reply a.0.0 a.0.1 reshard.store = spelled here goal w past reshard.store p.rest p.listed c.node c.command c.reply a.0.0 a.0.1 s.inv may spells in
      let there : next ≡ effect w c.node c.command = step.1 ∙ after_admin here goal w c.node c.command good.0 in
      let fine : NoRefusal (calls es) = no_command_refused reshard es w (left_of p) (record { drives = s.drives; honest = quiet_honest es reshard.first reshard.before s.quiet }) in (
        a.0,
        a.1,
        a.2,
        record {
          inv = subst (λ x. Inv here goal x (Admin c.node c.command c.reply ∷ past) a.0.0 a.0.1 reshard.store) (sym there) good.1;
          drives = record {
            starts = starts;
            run = subst (Run reshard.first (es ++ Admin c.node c.command c.reply ∷ [])) (sym step.1) (run_on reshard.first es w (Admin c.node c.command c.reply) s.drives.run step.0);
            driven = driven_more reshard.plan es p.rest a.0.0 p.listed a.0.1 c.node c.command c.reply s.drives.driven fine spells;
          };
          drains = t.1;
        },
      )

  ends_by : (cs : List AdminCall) (es : List Event) (w last : World) (past : List Event) (p : Progress) (end : PlanState) → SoFar es w past p → Goes p cs end → Chain by_call w cs last
      → EndsBy (p.spent + length cs) end
  ends_by [] es w last past p end s g chain = elim g [ inl u ↦ inl (u.1 ∙ ap Done (none p.spent)) | inr u ↦ inr (u.0, u.2 ∙ ap (Stopped (stopped_by u.0)) (none p.spent)) ]
    where
      none : (a : ℕ) → a ≡ a + 0
      none a = omega arith
  ends_by (c ∷ cs) es w last past p end s g chain =
      let n = next_is es w chain.0 past p c s g.0 chain.1 in
      let e : Event = Admin c.node c.command c.reply in
      let more : length (calls (es ++ e ∷ [])) ≡ length (calls es) + 1 = ap length (calls-append es c.node c.command c.reply) ∙ length-append (calls es) _ in
      on n.0 n.3 (omega (arith, more, s.taken)) (ends_by cs (es ++ e ∷ []) chain.0 last (e ∷ past))
      (subst (λ j. runs_on j (λ q. Goes q cs end) (λ j. (cs ≡ []) × (end ≡ j))) (plan_after_left (waits p) c.reply n.0 n.2 n.1) g.1)
    where
      e : Event
      e = Admin c.node c.command c.reply

      on : (left : Left) → Next es c chain.0 (e ∷ past) left → p.spent + 1 ≡ length (calls (es ++ e ∷ []))
          → ((q : Progress) (end : PlanState) → SoFar (es ++ e ∷ []) chain.0 (e ∷ past) q → Goes q cs end → Chain by_call chain.0 cs last → EndsBy (q.spent + length cs) end)
          → runs_on (progress_at p.nodes left (p.spent + 1) p.most) (λ q. Goes q cs end) (λ j. (cs ≡ []) × (end ≡ j)) → EndsBy (p.spent + length (c ∷ cs)) end
      on ([], listed) n taken later h = inl (h.1 ∙ ap Done (one p.spent) ∙ ap (λ xs. Done (p.spent + length (c ∷ xs))) (sym h.0))
        where
          one : (a : ℕ) → a + 1 ≡ a + length (c ∷ [])
          one a = omega arith
      on (o ∷ rest, listed) n taken later h =
          let some : o ∷ rest ≢ [] = λ i. absurd (cons_none o rest i) in
          let quiet : NoClients (es ++ e ∷ []) = quiet_more es c.node c.command c.reply s.quiet in
          let room : p.spent + 1 ≢ p.most = has_room (es ++ e ∷ []) chain.0 (remaining (o ∷ rest) listed) (p.spent + 1) p.most n.drives quiet taken s.room some in
          let q : Progress = record { nodes = p.nodes; rest = o ∷ rest; listed = listed; spent = p.spent + 1; most = p.most } in
          one_more p.spent cs end c (later q end
          (record { inv = n.inv; drives = n.drives; quiet = quiet; taken = taken; room = s.room; drains = n.drains })
          (subst (λ b. runs_on (cond b (Stopped causes.Limit (p.spent + 1)) (Running q)) (λ q. Goes q cs end) (λ j. (cs ≡ []) × (end ≡ j))) (ne_eqb (p.spent + 1) p.most room) h) chain.2)

-- ---- the calls as a run of the world

calls-events_of : (cs : List AdminCall) → calls (events_of cs) ≡ cs
calls-events_of [] = refl
calls-events_of (c ∷ cs) = ap (λ xs. c ∷ xs) (calls-events_of cs)

no_clients : (cs : List AdminCall) → NoClients (events_of cs)
no_clients [] = tt
no_clients (c ∷ cs) = no_clients cs

run_by : (cs : List AdminCall) (w last : World) → Chain by_call w cs last → Run w (events_of cs) last
run_by [] w last h = h
run_by (c ∷ cs) w last h = (h.1.0, subst (λ x. Run x (events_of cs) last) h.1.1 (run_by cs h.0 last h.2))

-- ---- the whole plan

over_world : (reshard : Reshard) (last : World) (most : ℕ) (cs : List AdminCall) (end : PlanState) → Starts reshard → quiet_cost reshard.store reshard.plan ≤ most
    → Goes (at_start (length reshard.first.nodes) reshard.plan most) cs end → Chain by_call reshard.first cs last
    → IsDoneQuietly reshard cs last end ⊎ ((f : PortFault) × (end ≡ Stopped (stopped_by f) (length cs)))
over_world reshard last most cs end starts room goes chain =
    let p : Progress = at_start (length reshard.first.nodes) reshard.plan most in
    let begun : SoFar reshard starts [] reshard.first reshard.before p = record {
      inv = start reshard starts;
      drives = record { starts = starts; run = refl; driven = ((refl, refl), tt) };
      quiet = tt;
      taken = refl;
      room = room;
      drains = tt;
    } in
    elim (ends_by reshard starts cs [] reshard.first last reshard.before p end begun goes chain) [
      | inl u ↦ inl (done u)
      | inr u ↦ inr (u.0, u.1 ∙ ap (Stopped (stopped_by u.0)) (plain (length cs)))
    ]
  where
    plain : (a : ℕ) → 0 + a ≡ a
    plain a = omega arith

    done : end ≡ Done (0 + length cs) → IsDoneQuietly reshard cs last end
    done u =
        let p : Progress = at_start (length reshard.first.nodes) reshard.plan most in
        let spelt : Spelled (whole reshard.plan) (calls (events_of cs)) (whole []) = subst (λ xs. Spelled (whole reshard.plan) xs (whole [])) (sym (calls-events_of cs)) (done_spelt p cs (0 + length cs) tt (subst (Goes p cs) u goes)) in
        let run : Run reshard.first (events_of cs) last = run_by cs reshard.first last chain in
        let unrolls : Unrolls reshard.plan (calls (events_of cs)) = whole_by_spelled reshard.plan (calls (events_of cs)) spelt in
        let quiet = quiet_reshard reshard (events_of cs) last starts run unrolls (no_clients cs) in
        record {
          end_is = u ∙ ap Done (plain (length cs));
          cost = ap length (sym (calls-events_of cs)) ∙ quiet.cost;
          quiet = λ closed. ap length (sym (calls-events_of cs)) ∙ quiet_cost_is reshard (events_of cs) last starts closed run unrolls (no_clients cs);
          clean = quiet.clean;
        }

-- ---- a world fails by out of memory alone, and that leaves it

module _ (at last : World) (pending : Order → Type 0) where
  no_lost : (f : PortFault) (n : ℕ) (c : AdminCommand) → stopped_by f ≡ causes.Lost → IsAdminFault at n c f last → ⊥
  no_lost fault.Memory n c e h = cc
  no_lost fault.Io n c e h = h
  no_lost fault.Wire n c e h = h

  left_so : (end : PlanState) → FaultShown IsAdminFault at last pending end → last ≡ at
  left_so (Running q) h = h
  left_so (Done n) h = h
  left_so (Stopped (causes.Refused number reason) n) h = h
  left_so (Stopped causes.Memory n) h = h.2
  left_so (Stopped causes.Lost n) h = absurd (no_lost h.1 h.0.node h.0.command h.3 h.4)
  left_so (Stopped causes.StrangeReply n) h = h
  left_so (Stopped causes.Abandoned n) h = h
  left_so (Stopped causes.Limit n) h = h

  lost : (end : PlanState) (n : ℕ) → end ≡ Stopped causes.Lost n → FaultShown IsAdminFault at last pending end → ⊥
  lost end n e h = let s = subst (FaultShown IsAdminFault at last pending) e h in no_lost s.1 s.0.node s.0.command s.3 s.4

  memory_alone : (f : PortFault) (end : PlanState) (n : ℕ) → end ≡ Stopped (stopped_by f) n → FaultShown IsAdminFault at last pending end → end ≡ Stopped causes.Memory n
  memory_alone fault.Memory end n e h = e
  memory_alone fault.Io end n e h = absurd (lost end n e h)
  memory_alone fault.Wire end n e h = absurd (lost end n e h)

pub runs_quietly : RunsQuietly
runs_quietly first last p before after end runs reshard most there is starts room =
    let same = left_so runs.1 last (IsPending p runs.0) end runs.5 in
    let goes : Goes (at_start (length reshard.first.nodes) reshard.plan most) runs.0 end =
    subst (λ w. Goes (at_start (length w.nodes) reshard.plan most) runs.0 end) (sym there) (subst (λ q. Goes q runs.0 end) is runs.3) in
    let chain : Chain by_call reshard.first runs.0 last = subst (λ w. Chain by_call w runs.0 last) (sym there) (subst (Chain by_call first runs.0) (sym same) runs.4) in (
      runs.0,
      runs.2,
      elim (over_world reshard last most runs.0 end starts room goes chain) [
        | inl done ↦ inl done
        | inr stopped ↦ inr (memory_alone runs.1 last (IsPending p runs.0) stopped.0 end (length runs.0) stopped.1 runs.5)
      ],
    )

pub clean_is_unmarked : CleanIsUnmarked
clean_is_unmarked w o store count clean = record {
  count = count;
  nodes = λ m h. subst (λ x. HasTable x o.owners) (sym (clean.nodes m h)) (record { owners_are = refl; not_migrating = refl; not_importing = refl });
}
