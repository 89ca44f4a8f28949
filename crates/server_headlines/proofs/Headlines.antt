-- The headline of calls that are a plan's own, as servers saw them.
use Rattle.std.proofs.Common.{ℕ, List, [], ◌∷◌, ◌++◌, sym, subst, inl, inr}
use Rattle.cluster_world.specs.Honesty.{Honest}
use Rattle.cluster_world.specs.Servers.{ServerRun}
use Rattle.cluster_admin.specs.Surveys.{Survey}
use Rattle.cluster_world.specs.Worlds.{World}
use Rattle.cluster_admin.specs.declared.call.AdminCall.{AdminCall}
use Rattle.cluster_world.specs.declared.event.Event.{Event}
use Rattle.plan_language.specs.PlanView.{PlanView}
use Rattle.plan_language.specs.declared.plan_command.PlanCommand.{PlanCommand}
use Rattle.plan_runner.specs.Verifying.{IsVerified, commands_of}
use Rattle.plan_runner.specs.declared.plan_state.PlanState.{PlanState}
use Rattle.reshard_theorem.specs.Driven.{Driven}
use Rattle.plan_semantics.specs.Driving.{StopsAtRefusal, called}
use Rattle.cluster_world.specs.AdminCalls.{calls}
use Rattle.plan_semantics.specs.Plans.{Legal}
use Rattle.reshard_theorem.specs.Starts.{Reshard, Starts}
use Rattle.plan_semantics.specs.Surveyed.{node_count}
use Rattle.plan_semantics.specs.Unrolling.{IsPrefix}
use Rattle.reshard_theorem.proofs.Driven.{driven_step_by_step}
use Rattle.reshard_theorem.specs.ServerHeadline.{IsServerRunOf}
use Rattle.reshard_theorem.proofs.Clauses.{headline_holds}
use Rattle.reshard_theorem.proofs.HonestRuns.{leaves_open}
use Rattle.server_runs.proofs.Listing.{AllListKeys}
use Rattle.server_headlines.proofs.Listing.{served_keys}
use Rattle.server_runs.proofs.OwnCalls.{front_prefix, front_stops, next_more}
use Rattle.server_runs.specs.PlanCalls.{AreNext, start_of}
use Rattle.server_headlines.specs.ServersRuns.{AreSeen, HasHeadline, HoldsAtServers, IsLost, IsSurveyed}
use Rattle.server_runs.proofs.Beginnings.{AreBeginning, next_beginning}

-- ---- the headline

module _ (reshard : Reshard) (plan : PlanView) (v : Survey) (surveyed : IsSurveyed plan v reshard) where
  pub starts : IsVerified plan v → Starts reshard
  starts verified = record {
    legal =
        subst (λ (k : ℕ). Legal reshard.version reshard.plan reshard.phases k) (sym surveyed.nodes)
        (subst (λ (os : List PlanCommand). Legal reshard.version os reshard.phases (node_count v)) (sym surveyed.commands)
        (subst (λ (k : ℕ). Legal k (commands_of plan v) reshard.phases (node_count v)) (sym surveyed.version)
        (verified.legal reshard.phases surveyed.shows)));
    is_open = surveyed.is_open;
  }

  holds : (events : List Event) (last : World) → IsVerified plan v → ServerRun reshard.first events last
      → Honest reshard.first reshard.before events → AreBeginning (commands_of plan v) (calls events)
      → HoldsAtServers reshard events last
  holds events last verified run honest beginning =
      let driven : Driven reshard.plan events =
      subst (λ (os : List PlanCommand). Driven os events) (sym surveyed.commands) beginning in
      let is : IsServerRunOf reshard events last =
      record { starts = starts verified; run = run; driven = driven; honest = honest } in
      let left = (driven_step_by_step reshard.plan events).0 driven in
      record {
        is_run = is;
        headline = headline_holds reshard events last is;
        is_open =
            leaves_open reshard events last left.0
            (record { drives = record { starts = starts verified; run = run; driven = left.1 }; honest = honest });
      }

seen_beginning : (plan : PlanView) (v : Survey) (cs seen : List AdminCall) (end : PlanState)
    → AreNext (start_of plan v) cs → AreBeginning (commands_of plan v) cs → AllListKeys seen
    → AreSeen cs (IsLost (start_of plan v) cs end) seen → AreBeginning (commands_of plan v) seen
seen_beginning plan v cs seen end next beginning keys (inl (later, is)) = (
  front_prefix (commands_of plan v) seen later (subst (IsPrefix (commands_of plan v)) is beginning.0),
  front_stops seen later (subst StopsAtRefusal is beginning.1),
)
seen_beginning plan v cs seen end next beginning keys (inr (s, reply, lost, is)) =
    subst (AreBeginning (commands_of plan v)) (sym is)
    (next_beginning plan v (cs ++ called s.node s.command reply ∷ [])
    (next_more (start_of plan v) cs s reply next lost.1) (subst AllListKeys is keys))

pub has_headline : (plan : PlanView) (v : Survey) (cs : List AdminCall) (end : PlanState) → AreNext (start_of plan v) cs
    → AreBeginning (commands_of plan v) cs → HasHeadline plan v cs end
has_headline plan v cs end next beginning reshard events last verified surveyed run honest seen =
    holds reshard plan v surveyed events last verified run honest
    (seen_beginning plan v cs (calls events) end next beginning (served_keys events reshard.first last run) seen)
