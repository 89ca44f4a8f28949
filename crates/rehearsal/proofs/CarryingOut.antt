-- A plan that was underway and is done was carried out, and left a clean world.
use Rattle.std.proofs.Common.{◌≡◌, ℕ, ◌+◌, false, List, [], ◌∷◌, ◌++◌, refl, sym, ap, ◌∙◌, subst, subst₂, append-nil, append_assoc}
use Rattle.std.proofs.lemmas.Bool.{true≢false}
use Rattle.byte_texts.specs.Outcomes.{Chain}
use Rattle.cluster_admin.specs.declared.admin.AdminReply.{AdminReply}
use Rattle.cluster_admin.specs.declared.admin.AdminReply.TheVariants as replies
use Rattle.cluster_world.specs.Honesty.{Honest}
use Rattle.cluster_world.specs.Recorded.{Recorded}
use Rattle.cluster_world.specs.RecordedPorts.{by_call, call_event}
use Rattle.cluster_world.specs.Steps.{Run}
use Rattle.cluster_world.specs.Worlds.{World}
use Rattle.cluster_admin.specs.declared.call.AdminCall.{AdminCall}
use Rattle.cluster_world.specs.declared.event.Event.{Event}
use Rattle.cluster_world.specs.declared.event.Event.TheVariants.{Client, Look, Admin}
use Rattle.cluster_world.proofs.Recording.{run_on}
use Rattle.plan_semantics.specs.Driving.{NoRefusal, Remaining, Spelled, StopsAtRefusal, is_refused, remaining, whole}
use Rattle.cluster_world.specs.AdminCalls.{calls}
use Rattle.plan_semantics.specs.Unrolling.{Unrolls}
use Rattle.plan_semantics.proofs.Unrolling.{whole_by_spelled}
use Rattle.plan_runner.specs.Advancing.{Goes, runs_on, waits}
use Rattle.plan_runner.specs.Finishing.{IsOpen}
use Rattle.plan_runner.specs.PlanStates.{plan_after}
use Rattle.plan_runner.specs.ProgressView.{Progress, Waits, left_of}
use Rattle.plan_machine.specs.Quiet.{events_of}
use Rattle.plan_runner.specs.declared.plan_state.PlanState.{PlanState}
use Rattle.plan_runner.specs.declared.plan_state.PlanState.TheVariants.{Running, Done, Stopped}
use Rattle.plan_runner.specs.declared.running.RunningPlan.{RunningPlan}
use Rattle.plan_runner.specs.declared.stop_cause.StopCause.TheVariants as causes
use Rattle.plan_runner.proofs.Going.{sends_end}
use Rattle.plan_runner.proofs.LeftAnywhere.{fine_reply}
use Rattle.plan_runner.proofs.Spelling.{done_spelt, stop_done}
use Rattle.reshard_theorem.specs.Headline.{HeadlineHolds}
use Rattle.rehearsal.specs.ArmedPlans.{armed_in}
use Rattle.rehearsal.specs.CarriedOut.{ClientsKeepDone, ClientsKeepPlans, HeadlineOnceDone, HonestOnceDone}
use Rattle.rehearsal.specs.CarriedOut.{RunCarriesOut, StepCarriesOut, StepsKeepPlans}
use Rattle.rehearsal.specs.RecordedSteps.{recorded_steps}
use Rattle.rehearsal.proofs.SinceArming.{behind}
use Rattle.rehearsal.proofs.Underway.{by_client, no_call, sent_on, spelled_open}

-- ---- the calls of a plan, and their events

calls_with : (es : List Event) (cs : List AdminCall) → calls (es ++ events_of cs) ≡ calls es ++ cs
calls_with [] [] = refl
calls_with [] (c ∷ cs) = ap (λ l. c ∷ l) (calls_with [] cs)
calls_with (Client seat n asking k r ∷ es) cs = calls_with es cs
calls_with (Look seat n r ∷ es) cs = calls_with es cs
calls_with (Admin n k r ∷ es) cs = ap (λ l. record { node = n; command = k; reply = r } ∷ l) (calls_with es cs)

-- what the calls make of a recorded world, seen from a world before it
record Went (r at : Recorded) (cs : List AdminCall) (start : World) (es : List Event) : Type 0 where
  first_is : at.first ≡ r.first
  events_are : at.events ≡ r.events ++ events_of cs
  run : Run start (es ++ events_of cs) at.world

went : (r at : Recorded) (cs : List AdminCall) (start : World) (es : List Event) → Chain by_call r cs at
    → Run start es r.world → Went r at cs start es
went r at [] start es same run = record {
  first_is = ap (λ (x : Recorded). x.first) same;
  events_are = ap (λ (x : Recorded). x.events) same ∙ sym (append-nil r.events);
  run = subst (λ l. Run start l at.world) (sym (append-nil es)) (subst (λ (x : Recorded). Run start es x.world) (sym same) run);
}
went r at (c ∷ cs) start es (mid, p, rest) run =
    let e : Event = call_event c in
    let here = subst (λ (x : Recorded). Run start (es ++ e ∷ []) x.world) (sym p.2) (run_on start es r.world e run p.1) in
    let far = went mid at cs start (es ++ e ∷ []) rest here in record {
      first_is = far.first_is ∙ ap (λ (x : Recorded). x.first) p.2;
      events_are = far.events_are ∙ ap (λ (x : Recorded). x.events ++ events_of cs) p.2 ∙ append_assoc r.events (e ∷ []) (events_of cs);
      run = subst (λ l. Run start l at.world) (append_assoc es (e ∷ []) (events_of cs)) far.run;
    }

-- ---- none of them was refused

done_fine : (p : Progress) (cs : List AdminCall) (n : ℕ) → Goes p cs (Done n) → NoRefusal cs
done_fine p [] n g = tt
done_fine p (c ∷ cs) n g = by (plan_after (waits p) c.reply) refl (λ q. done_fine q cs n) g.1
  where
    ended : (w : Waits) (r : AdminReply) (m : ℕ) → plan_after w r ≡ Done m → is_refused r ≡ false
    ended w replies.Ok m e = refl
    ended w replies.NoKey m e = refl
    ended w (replies.Keys ks) m e = refl
    ended w (replies.Refused f) m e = absurd (stop_done (causes.Refused (w.spent + 1) f) (w.spent + 1) m e)

    by : (j : PlanState) → plan_after (waits p) c.reply ≡ j → ((q : Progress) → Goes q cs (Done n) → NoRefusal cs)
        → runs_on j (λ q. Goes q cs (Done n)) (λ j. (cs ≡ []) × (Done n ≡ j)) → NoRefusal (c ∷ cs)
    by (Running q) e more h = (fine_reply (waits p) q c.reply e, more q h)
    by (Done m) e more h = (ended (waits p) c.reply m e, subst NoRefusal (sym h.0) tt)
    by (Stopped cause m) e more h = absurd (stop_done cause m n (sym h.1))

fine_append : (cs ds : List AdminCall) → NoRefusal cs → NoRefusal ds → NoRefusal (cs ++ ds)
fine_append [] ds h g = g
fine_append (c ∷ cs) ds h g = (h.0, fine_append cs ds h.1 g)

stops_fine : (cs : List AdminCall) → NoRefusal cs → StopsAtRefusal cs
stops_fine [] fine = tt
stops_fine (c ∷ cs) fine = ((λ e. absurd (true≢false (sym e ∙ fine.0))), stops_fine cs fine.1)

-- ---- they are all that it is

spelled_append : (cs ds : List AdminCall) (first mid last : Remaining) → Spelled first cs mid → Spelled mid ds last
    → Spelled first (cs ++ ds) last
spelled_append [] ds first mid last d h = subst₂ (λ p l. Spelled (remaining p l) ds last) d.0 d.1 h
spelled_append (c ∷ cs) ds first mid last d h = (d.0, d.1, spelled_append cs ds d.0 mid last d.2 h)

pub run_carries_out : RunCarriesOut
run_carries_out r now plan u (before, after, n, runs) =
    let cs : List AdminCall = runs.0 in
    let es : List Event = events_of cs in
    let far = went r runs.1 cs u.start u.since runs.4 u.led_here in
    let open_first : IsOpen plan.rest plan.listed =
    spelled_open (whole u.commands) (calls u.since) (remaining plan.rest plan.listed) tt u.driven.0 in
    let all : Spelled (whole u.commands) (calls u.since ++ cs) (whole []) =
    spelled_append (calls u.since) cs (whole u.commands) (left_of plan) (whole []) u.driven.0
    (done_spelt plan cs n open_first runs.3) in
    let are : calls (u.since ++ es) ≡ calls u.since ++ cs = calls_with u.since cs in record {
      first_is = ap (λ (x : Recorded). x.first) runs.5 ∙ far.first_is;
      since = u.since ++ es;
      parts = ap (λ (x : Recorded). x.events) runs.5 ∙ far.events_are ∙ ap (λ l. l ++ es) u.parts
          ∙ append_assoc u.before u.since es;
      led_here = subst (λ (x : Recorded). Run u.start (u.since ++ es) x.world) (sym runs.5) far.run;
      unrolls = subst (Unrolls u.commands) (sym are) (whole_by_spelled u.commands (calls u.since ++ cs) all);
      none_refused = subst NoRefusal (sym are)
          (fine_append (calls u.since) cs u.none_refused (done_fine plan cs n runs.3));
    }

pub step_carries_out : StepCarriesOut
step_carries_out r now plan u (before, after, n, sends) =
    run_carries_out r now plan u (before, after, n, sends_end recorded_steps r now plan before after (Done n) tt sends)

-- ---- what comes between

pub clients_keep_plans : ClientsKeepPlans
clients_keep_plans r next e none puts = by_client r next e none puts

pub steps_keep_plans : StepsKeepPlans
steps_keep_plans r next plan more before after u sends =
    let q : RunningPlan (List AdminCall) = record { progress = more; seat = after } in
    sent_on r next plan q before after u sends

pub clients_keep_done : ClientsKeepDone
clients_keep_done r now next plan u e none puts done =
    let same : calls (done.since ++ e ∷ []) ≡ calls done.since = no_call done.since e none in record {
      first_is = ap (λ (x : Recorded). x.first) puts.2 ∙ done.first_is;
      since = done.since ++ e ∷ [];
      parts = ap (λ (x : Recorded). x.events) puts.2 ∙ ap (λ l. l ++ e ∷ []) done.parts
          ∙ append_assoc u.before done.since (e ∷ []);
      led_here = subst (λ (x : Recorded). Run u.start (done.since ++ e ∷ []) x.world) (sym puts.2)
          (run_on u.start done.since now.world e done.led_here puts.1);
      unrolls = subst (Unrolls u.commands) (sym same) done.unrolls;
      none_refused = subst NoRefusal (sym same) done.none_refused;
    }

-- ---- the headline

pub headline_once_done : HeadlineHolds → HeadlineOnceDone
headline_once_done holds r now plan u done store is_open honest =
    let h = holds (armed_in r plan u store) done.since now.world (record {
      starts = record { legal = u.legal; is_open = is_open };
      run = done.led_here;
      driven = (
        ([], subst (Unrolls u.commands) (sym (append-nil (calls done.since))) done.unrolls),
        stops_fine (calls done.since) done.none_refused,
      );
      honest = honest;
    }) in
    (h, h.clean_end done.unrolls)

pub honest_once_done : HonestOnceDone
honest_once_done r now plan u done found =
    behind u.before done.since r.first u.start [] u.led_there
    (subst (Honest r.first []) done.parts (subst (λ w. Honest w [] now.events) done.first_is found))
