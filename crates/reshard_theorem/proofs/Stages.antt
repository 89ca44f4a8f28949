-- Several plans, one after the other.
use Rattle.std.proofs.Common.{List, [], ◌∷◌, ◌++◌, refl}
use Rattle.cluster_world.specs.Worlds.{World}
use Rattle.cluster_world.specs.Steps.{after}
use Rattle.cluster_world.specs.Servers.{ServerRun}
use Rattle.cluster_world.specs.declared.event.Event.{Event}
use Rattle.cluster_world.specs.Honesty.{Honest, past_of}
use Rattle.cluster_world.specs.Serving.{served, store_after}
use Rattle.cluster_world.specs.Openness.{Open}
use Rattle.reshard_theorem.specs.ServerHeadline.{ServerHeadlineOverPlans}
use Rattle.reshard_theorem.specs.Stages.{stage_events, stage_start, world_after}
use Rattle.reshard_theorem.proofs.Prefixes.{prefixes_are_driven}
use Rattle.reshard_theorem.proofs.HonestRuns.{leaves_open}
use Rattle.reshard_theorem.proofs.Clauses.{headline_holds}
use Rattle.reshard_theorem.proofs.Unique.{open_in}
use Rattle.reshard_theorem.specs.Starts.{Reshard, Starts}

pub run_parts : (es fs : List Event) (w last : World) → ServerRun w (es ++ fs) last → ServerRun w es (world_after w es) × ServerRun (world_after w es) fs last
run_parts [] fs w last run = (refl, run)
run_parts (e ∷ es) fs w last run = let r = run_parts es fs (after w e) last run.1 in ((run.0, r.0), r.1)

honest_parts : (es fs : List Event) (w : World) (past : List Event) → Honest w past (es ++ fs) → Honest w past es × Honest (world_after w es) (past_of past es) fs
honest_parts [] fs w past h = (tt, h)
honest_parts (e ∷ es) fs w past h = let r = honest_parts es fs (after w e) (e ∷ past) h.1 in ((h.0, r.0), r.1)

pub headline_over_plans : ServerHeadlineOverPlans
headline_over_plans [] w last phases store before o stages run honest = tt
headline_over_plans (x ∷ xs) w last phases store before o stages run honest =
    let runs = run_parts x.events (stage_events xs) w last run in
    let honests = honest_parts x.events (stage_events xs) w before honest in
    let next : World = world_after w x.events in
    let here : Open w x.phases store before = open_in w phases x.phases store before o stages.0 in
    let reshard : Reshard = stage_start w store before x in
    let starts : Starts reshard = record { legal = stages.1; is_open = here } in
    let d = prefixes_are_driven reshard x.events next starts runs.0 stages.2 honests.0 in
    let left = leaves_open reshard x.events next d.0 d.1 in (
      headline_holds reshard x.events next (record { starts = starts; run = runs.0; driven = (stages.2, d.1.drives.driven.1); honest = honests.0 }),
      headline_over_plans xs next last left.0 (store_after store (served x.events)) (past_of before x.events) left.1 stages.3 runs.1 honests.1,
    )
