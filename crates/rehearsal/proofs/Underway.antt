-- A plan is underway from its arming on: clients' events leave it so, and its own commands drive it on.
use Rattle.std.proofs.Common.{◌≡◌, ◌↔◌, ℕ, ◌+◌, ◌<◌, ◌≤◌, Bool, true, false, List, [], ◌∷◌, ◌++◌, length, map, Option, None}
use Rattle.std.proofs.Common.{Some, Ok, refl, sym, ap, ◌∙◌, subst, subst₂, inl, inr, append-nil, append_assoc}
use Rattle.std.proofs.Common.{length-append}
use Rattle.std.proofs.lemmas.Bool.{true≢false}
use Rattle.std.specs.Prelude.{IsTrue}
use Rattle.key_slots.specs.Owners.{Owners, IsTable}
use Rattle.resp2_wire.specs.Stream.{Words}
use Rattle.resp2_wire.specs.declared.reply.Reply.{Reply}
use Rattle.store_commands.specs.Store.{Key}
use Rattle.cluster_admin.specs.declared.admin.AdminCommand.{AdminCommand}
use Rattle.cluster_admin.specs.declared.admin.AdminReply.{AdminReply}
use Rattle.cluster_admin.specs.declared.admin.AdminReply.TheVariants as replies
use Rattle.cluster_world.specs.Ports.{Chain}
use Rattle.cluster_world.specs.Steps.{Answers}
use Rattle.cluster_admin.specs.declared.call.AdminCall.{AdminCall}
use Rattle.cluster_world.specs.declared.event.Event.{Event}
use Rattle.cluster_world.specs.declared.event.Event.TheVariants.{Client, Look, Admin}
use Rattle.plan_language.specs.declared.plan_command.PlanCommand.{PlanCommand}
use Rattle.plan_language.specs.declared.plan_command.PlanCommand.TheVariants as planned
use Rattle.plan_language.specs.PlanView.{PlanView}
use Rattle.plan_semantics.specs.Plans.{Legal}
use Rattle.cluster_world.specs.AdminCalls.{calls}
use Rattle.reshard_theorem.specs.Driven.{DrivenTo}
use Rattle.plan_semantics.specs.Driving.{NoRefusal, Remaining, Spelled, Spells, StopsAtRefusal, is_refused, remaining}
use Rattle.plan_semantics.specs.Driving.{whole}
use Rattle.plan_runner.specs.Advancing.{Sends, plan_of, waits}
use Rattle.plan_runner.specs.Finishing.{IsOpen}
use Rattle.plan_runner.specs.PlanStates.{plan_after}
use Rattle.plan_runner.specs.ProgressView.{Progress, at_start}
use Rattle.plan_runner.specs.Verifying.{IsVerified, commands_of}
use Rattle.plan_semantics.specs.Surveyed.{Shows, node_count}
use Rattle.reshard_theorem.proofs.Shown.{surveys_show_phases}
use Rattle.cluster_admin.specs.Surveys.{IsOpenSurvey, Survey}
use Rattle.cluster_world.specs.Worlds.{row_of, survey_of}
use Rattle.std.proofs.lemmas.List.{length-map}
use Rattle.plan_runner.specs.declared.running.RunningPlan.{RunningPlan}
use Rattle.plan_runner.specs.declared.running.Taken.TheVariants as taken
use Rattle.plan_runner.proofs.Going.{no_run_done, no_run_stop, run_on as run_on_by}
use Rattle.plan_runner.proofs.LeftAnywhere.{fine_reply}
use Rattle.plan_runner.proofs.Taking.{taking_spells}
use Rattle.reshard_theorem.proofs.Nexts.{calls-append}
use Rattle.node_session.specs.Talk.{Exchange, Sent, Looked, Unsent, Told, answer_of, sent_of}
use Rattle.rehearsal.specs.Answering.{IsReply, IsReplied, is_unknown, put_at}
use Rattle.cluster_admin.specs.Phases.{Phases}
use Rattle.cluster_world.specs.Openness.{HavePhases}
use Rattle.rehearsal.specs.ArmedPlans.{IsUnderway, KeepsPlans}
use Rattle.cluster_world.specs.Recorded.{Recorded, IsRecord, Puts, with_event}
use Rattle.rehearsal.specs.RecordedSteps.{recorded_steps, seated}
use Rattle.cluster_world.specs.RecordedPorts.{IsPut, call_event}
use Rattle.cluster_world.proofs.Recording.{run_on}

-- ---- the arming

pub just_armed : (r : Recorded) (version : ℕ) (commands : List PlanCommand) (phases : Phases) (plan : Progress) → IsRecord r
    → HavePhases r.world phases → Legal version commands phases (length r.world.nodes) → plan.rest ≡ commands
    → plan.listed ≡ None → plan.spent ≡ 0 → IsUnderway r plan
just_armed r version commands phases plan k have legal rest listed spent = record {
  start = r.world;
  phases = phases;
  have = have;
  version = version;
  commands = commands;
  legal = legal;
  before = r.events;
  since = [];
  parts = sym (append-nil r.events);
  led_there = k.run;
  led_here = refl;
  driven = ((rest, listed), tt);
  none_refused = tt;
  all_sent = sym spent;
}

pub armed : (r : Recorded) (plan : PlanView) (survey : Survey) (most : ℕ) (p : Progress) → IsRecord r
    → IsOpenSurvey survey → IsTrue true ↔ (survey_of r.world ≡ survey) → IsVerified plan survey
    → p ≡ at_start (node_count survey) (commands_of plan survey) most → IsUnderway r p
armed r plan survey most p k seen same verified is =
    let here : survey_of r.world ≡ survey = same.0 refl in
    let phases : Phases = λ s. (seen s).0 in
    let shows : Shows survey phases = λ s. (seen s).1 in
    let many : node_count survey ≡ length r.world.nodes =
    ap (λ (v : Survey). length v.rows) (sym here) ∙ length-map r.world.nodes row_of in
    just_armed r plan.version (commands_of plan survey) phases p k ((surveys_show_phases r.world phases).0 (subst (λ v. Shows v phases) (sym here) shows))
    (subst (λ n. Legal plan.version (commands_of plan survey) phases n) many (verified.legal phases shows))
    (ap (λ (x : Progress). x.rest) is) (ap (λ (x : Progress). x.listed) is) (ap (λ (x : Progress). x.spent) is)

-- ---- one event more

more : (r : Recorded) (plan now : Progress) (e : Event) (u : IsUnderway r plan) → Answers r.world e
    → DrivenTo u.commands (u.since ++ e ∷ []) (remaining now.rest now.listed) → NoRefusal (calls (u.since ++ e ∷ []))
    → length (calls (u.since ++ e ∷ [])) ≡ now.spent → IsUnderway (with_event r e) now
more r plan now e u answers driven fine sent = record {
  start = u.start;
  phases = u.phases;
  have = u.have;
  version = u.version;
  commands = u.commands;
  legal = u.legal;
  before = u.before;
  since = u.since ++ e ∷ [];
  parts = ap (λ es. es ++ e ∷ []) u.parts ∙ append_assoc u.before u.since (e ∷ []);
  led_there = u.led_there;
  led_here = run_on u.start u.since r.world e u.led_here answers;
  driven = driven;
  none_refused = fine;
  all_sent = sent;
}

-- ---- a client's event

pub no_call : (es : List Event) (e : Event) → calls (e ∷ []) ≡ [] → calls (es ++ e ∷ []) ≡ calls es
no_call [] e none = none
no_call (Client seat n asking c reply ∷ es) e none = no_call es e none
no_call (Look seat n reply ∷ es) e none = no_call es e none
no_call (Admin n c reply ∷ es) e none =
    ap (λ cs. record { node = n; command = c; reply = reply } ∷ cs) (no_call es e none)

pub by_client : (r next : Recorded) (e : Event) → calls (e ∷ []) ≡ [] → Puts r e next → KeepsPlans r next
by_client r next e none p plan u =
    let same : calls (u.since ++ e ∷ []) ≡ calls u.since = no_call u.since e none in
    subst (λ x. IsUnderway x plan) (sym p.2)
    (more r plan plan e u p.1
    (subst (λ cs. Spelled (whole u.commands) cs (remaining plan.rest plan.listed) × StopsAtRefusal cs) (sym same) u.driven)
    (subst NoRefusal (sym same) u.none_refused) (ap length same ∙ u.all_sent))

unchanged : (r next : Recorded) → next ≡ r → KeepsPlans r next
unchanged r next same plan u = subst (λ x. IsUnderway x plan) (sym same) u

exchanged : (r next : Recorded) (node : ℕ) (asking : Bool) (reply : Reply) (x : Exchange) → answer_of x ≡ Ok reply
    → Chain IsPut r (sent_of node asking x) next → KeepsPlans r next
exchanged r next node asking reply (Sent q c a) is (mid, sends, last) =
    subst (KeepsPlans r) last (by_client r mid (Client 0 node asking c reply) refl (rw is at sends))
exchanged r next node asking reply (Looked q a) is (mid, sends, last) =
    subst (KeepsPlans r) last (by_client r mid (Look 0 node reply) refl (rw is at sends))
exchanged r next node asking reply (Unsent q a) is last = unchanged r next (sym last)
exchanged r next node asking reply (Told q a) is last = unchanged r next (sym last)

replied : (r next : Recorded) (node : ℕ) (asking : Bool) (request : Words) (reply : Reply) (unknown : Bool)
    → IsReply unknown (put_at r node next) asking request reply → KeepsPlans r next
replied r next node asking request reply true (is, same) = unchanged r next same
replied r next node asking request reply false (x, f, g, h, chain) = exchanged r next node asking reply x g chain

pub answered_keeps : (r next : Recorded) (node : ℕ) (asking : Bool) (request : Words) (reply : Reply)
    → IsReplied (put_at r node next) asking request (Ok reply) → KeepsPlans r next
answered_keeps r next node asking request reply p = replied r next node asking request reply (is_unknown request) p

-- ---- the plan's next command

-- a listing that is open stands before its drain
spells_open : (left : Remaining) (c : AdminCall) (next : Remaining) → Spells left c next → IsOpen next.rest next.listed
spells_open left c next = by left.rest left.listed
  where
    by : (plan : List PlanCommand) (listed : Option (List Key)) → Spells (remaining plan listed) c next → IsOpen next.rest next.listed
    by [] listed h = absurd h
    by (planned.Importing s m at ∷ plan) None h = subst (IsOpen next.rest) (sym h.3) tt
    by (planned.Importing s m at ∷ plan) (Some ks) h = absurd h
    by (planned.Migrating s m at ∷ plan) None h = subst (IsOpen next.rest) (sym h.3) tt
    by (planned.Migrating s m at ∷ plan) (Some ks) h = absurd h
    by (planned.SetNode s m at ∷ plan) None h = subst (IsOpen next.rest) (sym h.3) tt
    by (planned.SetNode s m at ∷ plan) (Some ks) h = absurd h
    by (planned.Stable s at ∷ plan) None h = subst (IsOpen next.rest) (sym h.3) tt
    by (planned.Stable s at ∷ plan) (Some ks) h = absurd h
    by (planned.Drain s m t b ∷ plan) (Some ks) h = subst (IsOpen next.rest) (sym h.3) tt
    by (planned.Drain s m t b ∷ plan) None h = elim h.2 [
      | inl u ↦ subst (IsOpen next.rest) (sym u.2) tt
      | inr u ↦ subst₂ IsOpen (sym u.3) (sym u.4) tt
    ]

pub spelled_open : (left : Remaining) (cs : List AdminCall) (last : Remaining) → IsOpen left.rest left.listed
    → Spelled left cs last → IsOpen last.rest last.listed
spelled_open left [] last open_first d = subst₂ IsOpen (sym d.0) (sym d.1) open_first
spelled_open left (c ∷ cs) last open_first d = spelled_open d.0 cs last (spells_open left c d.0 d.1) d.2

spelled_more : (cs : List AdminCall) (c : AdminCall) (first left next : Remaining) → Spelled first cs left → Spells left c next
    → Spelled first (cs ++ c ∷ []) next
spelled_more [] c first left next d h =
    (next, subst₂ (λ p l. Spells (remaining p l) c next) d.0 d.1 h, (refl, refl))
spelled_more (a ∷ cs) c first left next d h = (d.0, d.1, spelled_more cs c d.0 left next d.2 h)

stops_more : (cs : List AdminCall) (c : AdminCall) → NoRefusal cs → StopsAtRefusal (cs ++ c ∷ [])
stops_more [] c fine = (λ e. refl, tt)
stops_more (a ∷ cs) c fine = (λ e. absurd (true≢false (sym e ∙ fine.0)), stops_more cs c fine.1)

fine_more : (cs : List AdminCall) (c : AdminCall) → NoRefusal cs → is_refused c.reply ≡ false
    → NoRefusal (cs ++ c ∷ [])
fine_more [] c fine is = (is, tt)
fine_more (a ∷ cs) c fine is = (fine.0, fine_more cs c fine.1 is)

pub sent_on : (r next : Recorded) (p : Progress) (q : RunningPlan (List AdminCall)) (before after : List AdminCall)
    → IsUnderway r p → Sends recorded_steps (seated r before) (seated next after) p (plan_of (taken.Running q))
    → IsUnderway next q.progress
sent_on r next p q before after u (inl s) = absurd (no_run_done q.progress p.spent s.3)
sent_on r next p q before after u (inr (inr s)) = absurd (no_run_stop q.progress _ p.spent s.5)
sent_on r next p q before after u (inr (inl (s, reply, is, moves, made, state))) =
    let c : AdminCall = record { node = s.node; command = s.command; reply = reply } in
    let cs : List AdminCall = calls u.since in
    let rest = q.progress.rest in
    let listed = q.progress.listed in
    let is_open : IsOpen p.rest p.listed = spelled_open (whole u.commands) cs (remaining p.rest p.listed) tt u.driven.0 in
    let spells = (taking_spells p q.progress s reply is_open is (sym state)).0 in
    let one_more = calls-append u.since s.node s.command reply in
    subst (λ x. IsUnderway x q.progress) (sym moves.2)
    (more r p q.progress (call_event c) u moves.1
    (subst (λ xs. Spelled (whole u.commands) xs (remaining rest listed) × StopsAtRefusal xs) (sym one_more)
    (spelled_more cs c (whole u.commands) (remaining p.rest p.listed) (remaining rest listed) u.driven.0 spells, stops_more cs c u.none_refused))
    (subst NoRefusal (sym one_more) (fine_more cs c u.none_refused (fine_reply (waits p) q.progress reply (sym state))))
    (ap length one_more ∙ length-append cs (c ∷ []) ∙ ap (λ n. n + 1) u.all_sent
    ∙ sym (run_on_by p q.progress reply (sym state)).2))
