-- Any schedule of the slots is a run.
use Rattle.std.proofs.Common.{◌≡◌, ◌⊎◌, ℕ, ◌<◌, List, [], ◌∷◌, ◌++◌, length, Option, None, append_assoc, append-nil, sym, refl, ap, ◌∙◌, subst, subst₂, inl, inr}
use Rattle.store_commands.specs.Store.{Key}
use Rattle.cluster_admin.specs.declared.admin.AdminCommand.{AdminCommand}
use Rattle.cluster_admin.specs.declared.admin.AdminReply.{AdminReply}
use Rattle.cluster_admin.specs.declared.call.AdminCall.{AdminCall}
use Rattle.cluster_world.specs.AdminCalls.{calls}
use Rattle.cluster_world.specs.Commanding.{admin_reply}
use Rattle.cluster_world.specs.Honesty.{Honest}
use Rattle.cluster_world.specs.Servers.{AnswersAsServer, MayReply, ServerRun}
use Rattle.cluster_world.specs.Steps.{after}
use Rattle.cluster_world.specs.Worlds.{World}
use Rattle.cluster_world.specs.declared.event.Event.{Event}
use Rattle.cluster_world.specs.declared.event.Event.TheVariants.{Admin}
use Rattle.plan_language.specs.declared.plan_command.PlanCommand.{PlanCommand}
use Rattle.plan_semantics.specs.Driving.{called, whole}
use Rattle.plan_semantics.specs.Plans.{part}
use Rattle.plan_semantics.specs.Unrolling.{IsPrefix, Unrolls}
use Rattle.plan_semantics.proofs.Unrolling.{spelled_by_prefixes}
use Rattle.reshard_theorem.specs.Starts.{Reshard, Starts}
use Rattle.reshard_theorem.proofs.Nexts.{calls-append}
use Rattle.reshard_theorem.proofs.Prefixes.{calls_front}
use Rattle.reshard_theorem.proofs.Servers.{world_may_reply}
use Rattle.slotwise_runs.specs.Cases.{EachScheduleIsRun, IsScheduled}
use Rattle.slotwise_runs.specs.Headline.{HasNextOfSlot, IsSeenRun}
use Rattle.slotwise_runs.specs.Seen.{AreSeenOfEachSlot, of_slot, slot_called}
use Rattle.slotwise_runs.proofs.Headline.{by_slots, done_or_not}

-- ---- one event more

run_more : (es : List Event) (e : Event) (w last : World) → ServerRun w es last → AnswersAsServer last e → ServerRun w (es ++ e ∷ []) (after last e)
run_more [] e w last run answers = (subst (λ x. AnswersAsServer x e) run answers, ap (λ x. after x e) run)
run_more (x ∷ es) e w last run answers = (run.0, run_more es e (after w x) last run.1 answers)

honest_more : (es : List Event) (w : World) (past : List Event) (r : ℕ) (c : AdminCommand) (reply : AdminReply) → Honest w past es → Honest w past (es ++ Admin r c reply ∷ [])
honest_more [] w past r c reply h = (tt, tt)
honest_more (x ∷ es) w past r c reply h = (h.0, honest_more es (after w x) (x ∷ past) r c reply h.1)

-- ---- the rest of a run

module _ (reshard : Reshard) (starts : Starts reshard) where
  -- a run so far, by the plan's own order of nodes
  record So (events : List Event) (last : World) : Type 0 where
    run : ServerRun reshard.first events last
    seen : AreSeenOfEachSlot reshard.plan (calls events)
    honest : Honest reshard.first reshard.before events

  record Scheduled (schedule : List ℕ) (events : List Event) : Type 0 where
    more : List Event
    last : World
    so : So (events ++ more) last
    scheduled : IsScheduled reshard.plan (calls events) schedule (calls more)

  continues : (schedule : List ℕ) (events : List Event) (last : World) → So events last → Scheduled schedule events
  continues [] events last so = record { more = []; last = last; so = subst (λ l. So l last) (sym (append-nil events)) so; scheduled = refl }
  continues (s ∷ schedule) events last so = elim (done_or_not reshard events last starts so.run so.seen so.honest s) [
    | inl done ↦ (let rest = continues schedule events last so in
        record { more = rest.more; last = rest.last; so = rest.so; scheduled = inl (done, rest.scheduled) })
    | inr unfinished ↦ (
        let next = (by_slots reshard events last starts so.run so.seen so.honest).goes_on s unfinished in
        let reply : AdminReply = admin_reply last next.order.node next.order.command in
        let may : MayReply last next.order.node next.order.command reply = world_may_reply last next.order.node next.order.command in
        let event : Event = Admin next.order.node next.order.command reply in
        let now : So (events ++ event ∷ []) (after last event) = record {
          run = run_more events event reshard.first last so.run (next.there, may);
          seen = next.seen reply may;
          honest = honest_more events reshard.first reshard.before next.order.node next.order.command reply so.honest;
        } in
        let rest = continues schedule (events ++ event ∷ []) (after last event) now in
        record {
          more = event ∷ rest.more;
          last = rest.last;
          so = subst (λ l. So l rest.last) (append_assoc events (event ∷ []) rest.more) rest.so;
          scheduled = inr (
            called next.order.node next.order.command reply,
            calls rest.more,
            refl,
            next.names,
            subst (λ l. IsScheduled reshard.plan l schedule (calls rest.more)) (calls-append events next.order.node next.order.command reply) rest.scheduled,
          );
        })
  ]

nothing_seen : (plan : List PlanCommand) → AreSeenOfEachSlot plan []
nothing_seen plan s = ((spelled_by_prefixes (part plan s) []).0.1 (whole (part plan s), (refl, refl)), tt)

pub each_schedule_is_run : EachScheduleIsRun
each_schedule_is_run reshard starts schedule =
    let begun : So reshard starts [] reshard.first = record { run = refl; seen = nothing_seen reshard.plan; honest = tt } in
    let all = continues reshard starts schedule [] reshard.first begun in (
      all.more,
      all.last,
      record {
        starts = starts;
        run = all.so.run;
        seen = record { as_told = reshard.plan; between = []; tells = refl; slots = all.so.seen };
        honest = all.so.honest;
      },
      all.scheduled,
    )
