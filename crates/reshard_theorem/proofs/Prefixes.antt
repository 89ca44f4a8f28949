-- Fronts of runs.
use Rattle.std.proofs.Common.{◌≡◌, List, [], ◌∷◌, ◌++◌, length, Option, None, sym, refl, ap, ◌∙◌, subst}
use Rattle.std.proofs.lemmas.Bool.{true≢false}
use Rattle.store_commands.specs.Store.{Key}
use Rattle.cluster_world.specs.Worlds.{World}
use Rattle.cluster_world.specs.Steps.{after}
use Rattle.cluster_world.specs.Servers.{ServerRun}
use Rattle.cluster_admin.specs.declared.call.AdminCall.{AdminCall}
use Rattle.cluster_world.specs.declared.event.Event.{Event}
use Rattle.cluster_world.specs.declared.event.Event.TheVariants.{Client, Look, Admin}
use Rattle.plan_language.specs.declared.plan_command.PlanCommand.{PlanCommand}
use Rattle.plan_semantics.specs.Plans.{final_owner}
use Rattle.plan_semantics.specs.Driving.{Remaining, remaining, Spelled, StopsAtRefusal, NoRefusal}
use Rattle.cluster_world.specs.AdminCalls.{calls}
use Rattle.cluster_world.specs.Honesty.{Honest}
use Rattle.plan_semantics.proofs.Unrolling.{spelled_by_prefixes}
use Rattle.reshard_theorem.proofs.Begins.{start}
use Rattle.reshard_theorem.specs.ServerRuns.{ServerPrefixesAreDriven, ServerPrefixesAreHonestRuns}
use Rattle.reshard_theorem.proofs.HonestRuns.{Good, run_keeps}

pub stops_fine : (cs : List AdminCall) → NoRefusal cs → StopsAtRefusal cs
stops_fine [] fine = tt
stops_fine (c ∷ cs) fine = (λ e. absurd (true≢false (sym e ∙ fine.0)), stops_fine cs fine.1)

pub prefixes_are_driven : ServerPrefixesAreDriven
prefixes_are_driven reshard events last starts run prefix honest =
    let s = (spelled_by_prefixes reshard.plan (calls events)).0.0 prefix in
    let g : Good (length reshard.first.nodes) (final_owner reshard.plan reshard.phases) last s.0.rest s.0.listed reshard.store reshard.before events = run_keeps (length reshard.first.nodes) (final_owner reshard.plan reshard.phases) events reshard.first last reshard.before reshard.plan s.0.rest None s.0.listed reshard.store
    (start reshard starts) run s.1 honest in
    (s.0, record { drives = record { starts = starts; run = run; driven = (s.1, stops_fine (calls events) g.no_refusal) }; honest = honest })

-- ---- at each moment

pub run_prefix : (es fs : List Event) (w last : World) → ServerRun w (es ++ fs) last → (now : World) × ServerRun w es now × ServerRun now fs last
run_prefix [] fs w last run = (w, refl, run)
run_prefix (e ∷ es) fs w last run = let r = run_prefix es fs (after w e) last run.1 in (r.0, (run.0, r.1), r.2)

pub honest_prefix : (es fs : List Event) (w : World) (past : List Event) → Honest w past (es ++ fs) → Honest w past es
honest_prefix [] fs w past h = tt
honest_prefix (e ∷ es) fs w past h = (h.0, honest_prefix es fs (after w e) (e ∷ past) h.1)

pub calls_front : (es fs : List Event) → calls (es ++ fs) ≡ calls es ++ calls fs
calls_front [] fs = refl
calls_front (Client seat x asking c r ∷ es) fs = calls_front es fs
calls_front (Look seat x r ∷ es) fs = calls_front es fs
calls_front (Admin n c r ∷ es) fs = ap (λ cs. record { node = n; command = c; reply = r } ∷ cs) (calls_front es fs)

spelled_front : (cs ds : List AdminCall) (plan rest : List PlanCommand) (listed listed' : Option (List Key)) → Spelled (remaining plan listed) (cs ++ ds) (remaining rest listed')
    → (left : Remaining) × Spelled (remaining plan listed) cs left
spelled_front [] ds plan rest listed listed' d = (remaining plan listed, (refl, refl))
spelled_front (c ∷ cs) ds plan rest listed listed' d = let s = spelled_front cs ds d.0.rest rest d.0.listed listed' d.2 in (s.0, (d.0, d.1, s.1))

none_behind : (cs ds : List AdminCall) → cs ++ ds ≡ [] → cs ≡ []
none_behind [] ds e = refl
none_behind (c ∷ cs) ds e = cc

pub stops_prefix : (cs ds : List AdminCall) → StopsAtRefusal (cs ++ ds) → StopsAtRefusal cs
stops_prefix [] ds h = tt
stops_prefix (c ∷ cs) ds h = (λ e. none_behind cs ds (h.0 e), stops_prefix cs ds h.1)

pub prefixes_are_honest_runs : ServerPrefixesAreHonestRuns
prefixes_are_honest_runs reshard so_far more last left m =
    let r = run_prefix so_far more reshard.first last m.drives.run in
    let s = spelled_front (calls so_far) (calls more) reshard.plan left.rest None left.listed (subst (λ cs. Spelled (remaining reshard.plan None) cs left) (calls_front so_far more) m.drives.driven.0) in
    let stops : StopsAtRefusal (calls so_far) = stops_prefix (calls so_far) (calls more) (subst StopsAtRefusal (calls_front so_far more) m.drives.driven.1) in (
      r.0,
      s.0,
      record { drives = record { starts = m.drives.starts; run = r.1; driven = (s.1, stops) }; honest = honest_prefix so_far more reshard.first reshard.before m.honest },
      r.2,
    )
