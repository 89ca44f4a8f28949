-- The headline from its clauses.
use Rattle.std.proofs.Common.{ℕ, List, [], ◌∷◌, ◌++◌, Option}
use Rattle.store_commands.specs.Store.{Key, Store}
use Rattle.cluster_world.specs.Worlds.{World}
use Rattle.cluster_world.specs.declared.event.Event.{Event}
use Rattle.plan_language.specs.declared.plan_command.PlanCommand.{PlanCommand}
use Rattle.cluster_admin.specs.Phases.{Phases}
use Rattle.cluster_world.specs.declared.event.Event.TheVariants.{Admin}
use Rattle.reshard_theorem.specs.ServerRuns.{IsHonestServerRun}
use Rattle.reshard_theorem.specs.ServerHeadline.{IsServerRunOf, ServerHeadline, ServerHeadlineHolds, ServersHoldAtEachMoment}
use Rattle.reshard_theorem.proofs.Driven.{driven_step_by_step}
use Rattle.reshard_theorem.proofs.Gains.{source_gains_nothing}
use Rattle.reshard_theorem.proofs.Nexts.{some_command_goes_on}
use Rattle.reshard_theorem.proofs.Spending.{within_its_cost}
use Rattle.reshard_theorem.proofs.HonestRuns.{no_command_refused, replies_replay, one_store, clean_end}
use Rattle.reshard_theorem.proofs.Prefixes.{prefixes_are_honest_runs}
use Rattle.reshard_theorem.specs.Starts.{Reshard}
use Rattle.plan_semantics.specs.Driving.{Remaining}

-- the run, and what it leaves of the plan
pub record Left (reshard : Reshard) (events : List Event) (last : World) : Type 0 where
  pub left : Remaining
  pub honest_run : IsHonestServerRun reshard events last left

left_of : (reshard : Reshard) (events : List Event) (last : World)
    → IsServerRunOf reshard events last → Left reshard events last
left_of reshard events last r =
    let s = (driven_step_by_step reshard.plan events).0 r.driven in
    record { left = s.0; honest_run = record { drives = record { starts = r.starts; run = r.run; driven = s.1 }; honest = r.honest } }

by_clauses : (reshard : Reshard) (events : List Event) (last : World)
    → Left reshard events last → ServerHeadline reshard events last
by_clauses reshard events last l =
    let fine = no_command_refused reshard events last l.left l.honest_run in
    record {
      no_refusal = fine;
      within_cost = within_its_cost reshard events last l.left l.honest_run.drives;
      replies_replay = replies_replay reshard events last l.left l.honest_run;
      one_store = one_store reshard events last l.left l.honest_run;
      source_gains_nothing = source_gains_nothing reshard events last l.left l.honest_run.drives;
      clean_end = λ whole final is. clean_end final reshard events last l.left l.honest_run whole is;
      goes_on = λ unfinished.
          let g = some_command_goes_on reshard events last l.left l.honest_run.drives fine unfinished in
          record {
            left = l.left;
            drives = l.honest_run.drives.driven;
            order = g.order;
            is_next = g.is_next;
            there = g.there;
            driven = λ reply may. (driven_step_by_step reshard.plan (events ++ Admin g.order.node g.order.command reply ∷ [])).1 (g.driven reply may);
            only = g.only;
          };
    }

pub headline_holds : ServerHeadlineHolds
headline_holds reshard events last r = by_clauses reshard events last (left_of reshard events last r)

pub moments_are_runs : ServersHoldAtEachMoment
moments_are_runs reshard so_far more last r =
    let l = left_of reshard (so_far ++ more) last r in
    let m = prefixes_are_honest_runs reshard so_far more last l.left l.honest_run in (
      m.0,
      record {
        starts = m.2.drives.starts;
        run = m.2.drives.run;
        driven = (driven_step_by_step reshard.plan so_far).1 (m.1, m.2.drives.driven);
        honest = m.2.honest;
      },
      m.3,
    )
