-- The world's own replies are among those that a server may give: what holds of every run of servers holds of every run.
use Rattle.std.proofs.Common.{ℕ, List, [], ◌∷◌, ◌++◌, Option, refl}
use Rattle.store_commands.specs.Store.{Key, Store}
use Rattle.cluster_world.specs.Worlds.{World}
use Rattle.cluster_world.specs.Commanding.{admin_reply}
use Rattle.cluster_world.specs.Steps.{Run}
use Rattle.cluster_world.specs.Serving.{served, store_after}
use Rattle.cluster_world.specs.declared.event.Event.{Event}
use Rattle.cluster_world.specs.Honesty.{past_of}
use Rattle.plan_language.specs.declared.plan_command.PlanCommand.{PlanCommand}
use Rattle.cluster_admin.specs.Phases.{Phases}
use Rattle.reshard_theorem.specs.DrivenRuns.{IsDrivenRun, WithinCost, SourceGainsNothing, SomeCommandGoesOn, StaysBelowCost, AsksStand}
use Rattle.reshard_theorem.specs.HonestRuns.{IsHonestRun, PrefixesAreDriven, LeavesOpen, NoCommandRefused, RepliesReplay, OneStore, CleanEnd}
use Rattle.reshard_theorem.specs.Headline.{IsRunOf, Headline, HeadlineHolds, HoldsAtEachMoment}
use Rattle.reshard_theorem.specs.QuietRuns.{QuietReshard}
use Rattle.reshard_theorem.specs.Stages.{Stage, EachHolds, HeadlineOverPlans, world_after}
use Rattle.reshard_theorem.specs.ServerRuns.{IsDrivenServerRun, IsHonestServerRun, ServerGoesOn}
use Rattle.reshard_theorem.specs.ServerHeadline.{IsServerRunOf, HasServerNext, ServerHeadline, EachServerHolds}
use Rattle.reshard_theorem.proofs.Servers.{world_may_reply, runs_are_server_runs}
use Rattle.reshard_theorem.proofs.Gains as gains
use Rattle.reshard_theorem.proofs.Nexts as nexts
use Rattle.reshard_theorem.proofs.Limits as limits
use Rattle.reshard_theorem.proofs.Spending as spending
use Rattle.reshard_theorem.proofs.HonestRuns as honest
use Rattle.reshard_theorem.proofs.Prefixes as prefixes
use Rattle.reshard_theorem.proofs.Quietly as quietly
use Rattle.reshard_theorem.proofs.Clauses as clauses
use Rattle.reshard_theorem.proofs.Retargets as retargets
use Rattle.reshard_theorem.proofs.Stages as stages
use Rattle.reshard_theorem.specs.Starts.{Reshard}
use Rattle.plan_semantics.specs.Driving.{Remaining}

run_prefix : (es fs : List Event) (w last : World) → Run w (es ++ fs) last → (now : World) × Run w es now × Run now fs last
run_prefix [] fs w last run = (w, refl, run)
run_prefix (e ∷ es) fs w last run = let r = run_prefix es fs _ last run.1 in (r.0, (run.0, r.1), r.2)

-- ---- each kind of run

pub driven_at_servers : {reshard : Reshard} {events : List Event} {last : World} {left : Remaining}
    → IsDrivenRun reshard events last left → IsDrivenServerRun reshard events last left
driven_at_servers r = record { starts = r.starts; run = runs_are_server_runs _ _ _ r.run; driven = r.driven }

honest_at_servers : {reshard : Reshard} {events : List Event} {last : World} {left : Remaining}
    → IsHonestRun reshard events last left → IsHonestServerRun reshard events last left
honest_at_servers r = record { drives = driven_at_servers r.drives; honest = r.honest }

run_at_servers : {reshard : Reshard} {events : List Event} {last : World}
    → IsRunOf reshard events last → IsServerRunOf reshard events last
run_at_servers r = record { starts = r.starts; run = runs_are_server_runs _ _ _ r.run; driven = r.driven; honest = r.honest }

-- the last clause, for the world's own reply
headline_of : {reshard : Reshard} {events : List Event} {last : World}
    → ServerHeadline reshard events last → Headline reshard events last
headline_of {reshard} {events} {last} h = record {
  no_refusal = h.no_refusal;
  within_cost = h.within_cost;
  replies_replay = h.replies_replay;
  one_store = h.one_store;
  source_gains_nothing = h.source_gains_nothing;
  clean_end = h.clean_end;
  goes_on = λ unfinished.
      let g : HasServerNext reshard.plan events last = h.goes_on unfinished in
      record {
        left = g.left;
        drives = g.drives;
        order = g.order;
        is_next = g.is_next;
        there = g.there;
        driven = g.driven (admin_reply last g.order.node g.order.command) (world_may_reply last g.order.node g.order.command);
        only = g.only;
      };
}

-- ---- the laws over the world's own replies

pub headline_holds : HeadlineHolds
headline_holds reshard events last r = headline_of (clauses.headline_holds reshard events last (run_at_servers r))

pub moments_are_runs : HoldsAtEachMoment
moments_are_runs reshard so_far more last r =
    let s = clauses.moments_are_runs reshard so_far more last (run_at_servers r) in
    let parts = run_prefix so_far more reshard.first last r.run in
    (parts.0, record { starts = r.starts; run = parts.1; driven = s.1.driven; honest = s.1.honest }, parts.2)

pub leaves_open : LeavesOpen
leaves_open reshard events last left m = honest.leaves_open reshard events last left (honest_at_servers m)

pub within_its_cost : WithinCost
within_its_cost reshard events last left run = spending.within_its_cost reshard events last left (driven_at_servers run)

pub source_gains_nothing : SourceGainsNothing
source_gains_nothing reshard events last left run = gains.source_gains_nothing reshard events last left (driven_at_servers run)

pub some_command_goes_on : SomeCommandGoesOn
some_command_goes_on reshard events last left run fine not_whole =
    let g : ServerGoesOn reshard.plan events last left = nexts.some_command_goes_on reshard events last left (driven_at_servers run) fine not_whole in
    let d = g.driven (admin_reply last g.order.node g.order.command) (world_may_reply last g.order.node g.order.command) in
    record { order = g.order; is_next = g.is_next; there = g.there; more = d.0; driven = d.1; only = g.only }

pub stays_below_cost : StaysBelowCost
stays_below_cost reshard events last left run fine not_whole =
    let b = limits.stays_below_cost reshard events last left (driven_at_servers run) fine not_whole in
    (b.0, b.1, b.2 (admin_reply last b.0.node b.0.command) (world_may_reply last b.0.node b.0.command))

pub prefixes_are_driven : PrefixesAreDriven
prefixes_are_driven reshard events last starts run prefix honest =
    let d = prefixes.prefixes_are_driven reshard events last starts (runs_are_server_runs _ _ _ run) prefix honest in
    (d.0, record { drives = record { starts = starts; run = run; driven = d.1.drives.driven }; honest = honest })

pub quiet_reshard : QuietReshard
quiet_reshard reshard events last starts run whole quiet =
    quietly.quiet_reshard reshard events last starts (runs_are_server_runs _ _ _ run) whole quiet

each_holds : (stages : List Stage) (w : World) (store : Store) (before : List Event) → EachServerHolds w store before stages → EachHolds w store before stages
each_holds [] w store before h = tt
each_holds (x ∷ xs) w store before h = (headline_of h.0, each_holds xs (world_after w x.events) (store_after store (served x.events)) (past_of before x.events) h.1)

pub headline_over_plans : HeadlineOverPlans
headline_over_plans xs w last phases store before o are run honest =
    each_holds xs w store before (stages.headline_over_plans xs w last phases store before o are (runs_are_server_runs _ _ _ run) honest)

pub asks_stand : AsksStand
asks_stand reshard events last left run once = retargets.asks_stand reshard events last left (driven_at_servers run) once

-- ---- where clients are honest

pub no_command_refused : NoCommandRefused
no_command_refused reshard events last left m = honest.no_command_refused reshard events last left (honest_at_servers m)

pub replies_replay : RepliesReplay
replies_replay reshard events last left m = honest.replies_replay reshard events last left (honest_at_servers m)

pub one_store : OneStore
one_store reshard events last left m = honest.one_store reshard events last left (honest_at_servers m)

pub clean_end : CleanEnd
clean_end reshard final events last left m whole is = honest.clean_end final reshard events last left (honest_at_servers m) whole is
