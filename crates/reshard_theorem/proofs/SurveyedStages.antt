-- Plans that were verified for surveys are stages, and the calls of several part a run into them.
use Rattle.std.proofs.Common.{◌≡◌, ◌≢◌, ℕ, zero, suc, List, [], ◌∷◌, ◌++◌, map, replicate, sym, refl, ap, ◌∙◌, subst, append-nil}
use Rattle.std.specs.FinMap as finite
use Rattle.cluster_node.specs.Nodes.{Node}
use Rattle.cluster_admin.specs.declared.admin.AdminCommand.{AdminCommand}
use Rattle.cluster_admin.specs.declared.admin.AdminCommand.TheVariants.{Importing, Migrating, SetNode, Stable, KeysIn}
use Rattle.cluster_admin.specs.declared.admin.AdminCommand.TheVariants.{Migrate}
use Rattle.cluster_admin.specs.declared.admin.AdminReply.{AdminReply}
use Rattle.cluster_world.specs.AdminCalls.{calls}
use Rattle.cluster_world.specs.Commanding.{admin_reply}
use Rattle.cluster_world.specs.Honesty.{Honest}
use Rattle.cluster_world.specs.Servers.{MayReply, ServerRun}
use Rattle.cluster_world.specs.Steps.{Run, after}
use Rattle.cluster_admin.specs.Telling.{survey_after, survey_told}
use Rattle.cluster_admin.specs.Surveys.{Row, Survey}
use Rattle.cluster_world.specs.Worlds.{row_of, survey_of, World}
use Rattle.cluster_world.specs.WorldView.{new_node}
use Rattle.cluster_admin.specs.declared.call.AdminCall.{AdminCall}
use Rattle.cluster_world.specs.declared.event.Event.{Event}
use Rattle.cluster_world.specs.declared.event.Event.TheVariants.{Client, Look, Admin}
use Rattle.cluster_world.proofs.SurveyedCalls.{surveys_are_told}
use Rattle.plan_semantics.specs.Plans.{Legal}
use Rattle.reshard_theorem.proofs.Shown.{surveys_show_phases, surveys_count_nodes}
use Rattle.reshard_theorem.specs.Stages.{Stage, stage_events, AreStages, world_after}
use Rattle.reshard_theorem.specs.Surveyed.{SentPlan, AreSentFor, all_calls, sent_in, SurveysAreToldAtServers}
use Rattle.reshard_theorem.specs.Surveyed.{HeadlineOverSurveys, ServerHeadlineOverSurveys, HeadlineOverCalls}
use Rattle.reshard_theorem.specs.Surveyed.{ServerHeadlineOverCalls, HeadlineOverTrails, OpeningsAreSurveyed, at_opening}
use Rattle.reshard_theorem.proofs.Landed as landed
use Rattle.reshard_theorem.proofs.Servers.{listing_reply, runs_are_server_runs}
use Rattle.reshard_theorem.proofs.Stages.{headline_over_plans, run_parts}
use Rattle.reshard_theorem.proofs.Threads.{opens}

-- ---- surveys at servers

-- a reply that a server may give tells what the world's own tells
told_so : (w : World) (v : Survey) (n : ℕ) (c : AdminCommand) (r : AdminReply) → MayReply w n c r
    → survey_told v n c (admin_reply w n c) ≡ survey_told v n c r
told_so w v n (Importing s m) r h = ap (survey_told v n (Importing s m)) (sym h)
told_so w v n (Migrating s m) r h = ap (survey_told v n (Migrating s m)) (sym h)
told_so w v n (SetNode s m) r h = ap (survey_told v n (SetNode s m)) (sym h)
told_so w v n (Stable s) r h = ap (survey_told v n (Stable s)) (sym h)
told_so w v n (KeysIn s b) r h =
    ap (survey_told v n (KeysIn s b)) (listing_reply w n s b) ∙ ap (survey_told v n (KeysIn s b)) (sym h.1)
told_so w v n (Migrate ks m) r h = ap (survey_told v n (Migrate ks m)) (sym h)

pub surveys_told : SurveysAreToldAtServers
surveys_told w [] last run = ap survey_of run
surveys_told w (Client seat n asking c r ∷ es) last run =
    let next : World = after w (Client seat n asking c r) in
    surveys_told next es last run.1
    ∙ ap (λ v. survey_after v (calls es)) (surveys_are_told w (Client seat n asking c r ∷ []) next (run.0, refl))
surveys_told w (Look seat n r ∷ es) last run = surveys_told w es last run.1
surveys_told w (Admin n c r ∷ es) last run =
    let next : World = after w (Admin n c r) in
    let by_world = surveys_are_told w (Admin n c (admin_reply w n c) ∷ []) next ((run.0.0, refl), refl) in
    surveys_told next es last run.1
    ∙ ap (λ v. survey_after v (calls es)) (by_world ∙ told_so w (survey_of w) n c r run.0.1)

-- ---- stages

pub verified_stages : (stages : List Stage) (w last : World) → AreSentFor (survey_of w) (map sent_in stages)
    → ServerRun w (stage_events stages) last → AreStages w stages
verified_stages [] w last sent run = tt
verified_stages (x ∷ xs) w last sent run =
    let next : World = world_after w x.events in
    let runs = run_parts x.events (stage_events xs) w last run in (
      (surveys_show_phases w x.phases).0 sent.0.shows,
      subst (λ n. Legal x.version x.plan x.phases n) (surveys_count_nodes w) sent.0.legal,
      sent.0.prefix,
      verified_stages xs next last
          (subst (λ v. AreSentFor v (map sent_in xs)) (sym (surveys_told w x.events next runs.0)) sent.1) runs.1,
    )

pub server_headline_over_surveys : ServerHeadlineOverSurveys
server_headline_over_surveys stages w last phases store before o sent run honest =
    headline_over_plans stages w last phases store before o (verified_stages stages w last sent run) run honest

pub headline_over_surveys : HeadlineOverSurveys
headline_over_surveys stages w last phases store before o sent run honest =
    landed.headline_over_plans stages w last phases store before o
    (verified_stages stages w last sent (runs_are_server_runs w (stage_events stages) last run)) run honest

-- ---- parting by calls

same_call : (c d : AdminCall) (cs ds : List AdminCall) → c ∷ cs ≡ d ∷ ds → c ≡ d
same_call c d cs ds e = cc

same_rest : (c d : AdminCall) (cs ds : List AdminCall) → c ∷ cs ≡ d ∷ ds → cs ≡ ds
same_rest c d cs ds e = cc

no_call : (c : AdminCall) (cs : List AdminCall) → [] ≡ c ∷ cs → ⊥
no_call c cs e = cc

-- events whose calls are these, and the rest, whose calls are those
record Parted (events : List Event) (cs ds : List AdminCall) : Type 0 where
  front : List Event
  rest : List Event
  are : front ++ rest ≡ events
  here : calls front ≡ cs
  there : calls rest ≡ ds

parted : (events : List Event) (cs ds : List AdminCall) → calls events ≡ cs ++ ds → Parted events cs ds
parted events [] ds e = record { front = []; rest = events; are = refl; here = refl; there = e }
parted [] (c ∷ cs) ds e = absurd (no_call c (cs ++ ds) e)
parted (Client seat n asking k r ∷ es) (c ∷ cs) ds e =
    let p = parted es (c ∷ cs) ds e in record {
      front = Client seat n asking k r ∷ p.front;
      rest = p.rest;
      are = ap (λ l. Client seat n asking k r ∷ l) p.are;
      here = p.here;
      there = p.there;
    }
parted (Look seat n r ∷ es) (c ∷ cs) ds e =
    let p = parted es (c ∷ cs) ds e in record {
      front = Look seat n r ∷ p.front;
      rest = p.rest;
      are = ap (λ l. Look seat n r ∷ l) p.are;
      here = p.here;
      there = p.there;
    }
parted (Admin n k r ∷ es) (c ∷ cs) ds e =
    let d : AdminCall = record { node = n; command = k; reply = r } in
    let p = parted es cs ds (same_rest d c (calls es) (cs ++ ds) e) in record {
      front = Admin n k r ∷ p.front;
      rest = p.rest;
      are = ap (λ l. Admin n k r ∷ l) p.are;
      here = ap (λ l. d ∷ l) p.here ∙ ap (λ x. x ∷ cs) (same_call d c (calls es) (cs ++ ds) e);
      there = p.there;
    }

-- the events as stages of these plans
record InStages (sent : List SentPlan) (events : List Event) : Type 0 where
  stages : List Stage
  plans_are : map sent_in stages ≡ sent
  events_are : stage_events stages ≡ events

stage_of : SentPlan → List Event → Stage
stage_of x events = record { version = x.version; plan = x.plan; phases = x.phases; events = events }

-- the last stage has all that comes after the calls before it
staged : (x : SentPlan) (xs : List SentPlan) (events : List Event) → calls events ≡ all_calls (x ∷ xs)
    → InStages (x ∷ xs) events
unfolding stage_of
staged x [] events e = record {
  stages = stage_of x events ∷ [];
  plans_are = ap (λ cs. record { version = x.version; plan = x.plan; phases = x.phases; calls = cs } ∷ []) (e ∙ append-nil x.calls);
  events_are = append-nil events;
}
staged x (y ∷ ys) events e =
    let p = parted events x.calls (all_calls (y ∷ ys)) e in
    let s = staged y ys p.rest p.there in record {
      stages = stage_of x p.front ∷ s.stages;
      plans_are = ap (λ cs. record { version = x.version; plan = x.plan; phases = x.phases; calls = cs } ∷ map sent_in s.stages) p.here
          ∙ ap (λ l. x ∷ l) s.plans_are;
      events_are = ap (λ l. p.front ++ l) s.events_are ∙ p.are;
    }

in_stages : (sent : List SentPlan) (events : List Event) → sent ≢ [] → calls events ≡ all_calls sent → InStages sent events
in_stages [] events some e = absurd (some refl)
in_stages (x ∷ xs) events some e = staged x xs events e

pub server_headline_over_calls : ServerHeadlineOverCalls
server_headline_over_calls sent setting events last given =
    let s = in_stages sent events given.some given.calls_are in record {
      stages = s.stages;
      plans_are = s.plans_are;
      events_are = s.events_are;
      each = server_headline_over_surveys s.stages setting.first last setting.phases setting.store setting.before given.is_open
          (subst (AreSentFor (survey_of setting.first)) (sym s.plans_are) given.each_sent)
          (subst (λ es. ServerRun setting.first es last) (sym s.events_are) given.run)
          (subst (λ es. Honest setting.first setting.before es) (sym s.events_are) given.honest);
    }

pub headline_over_calls : HeadlineOverCalls
headline_over_calls sent setting events last given =
    let s = in_stages sent events given.some given.calls_are in record {
      stages = s.stages;
      plans_are = s.plans_are;
      events_are = s.events_are;
      each = headline_over_surveys s.stages setting.first last setting.phases setting.store setting.before given.is_open
          (subst (AreSentFor (survey_of setting.first)) (sym s.plans_are) given.each_sent)
          (subst (λ es. Run setting.first es last) (sym s.events_are) given.run)
          (subst (λ es. Honest setting.first setting.before es) (sym s.events_are) given.honest);
    }

-- ---- trails

rows_replicate : (n : ℕ) (x : Node) → map row_of (replicate n x) ≡ replicate n (row_of x)
rows_replicate zero x = refl
rows_replicate (suc n) x = ap (λ l. row_of x ∷ l) (rows_replicate n x)

pub openings_are_surveyed : OpeningsAreSurveyed
openings_are_surveyed t =
    ap (λ (rows : List Row). record { rows = rows }) (rows_replicate t.owners.nodes (new_node t.owners.owners))

pub headline_over_trails : HeadlineOverTrails
headline_over_trails sent t last given = headline_over_calls sent (at_opening t) t.events last (record {
  is_open = opens t given.table;
  some = given.some;
  each_sent = subst (λ v. AreSentFor v sent) (sym (openings_are_surveyed t)) given.each_sent;
  calls_are = given.calls_are;
  run = given.run;
  honest = given.searched;
})
