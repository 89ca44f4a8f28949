-- What servers saw of a plan of which others were told in one go: its calls, in whatever order they have met those that
-- were sent together; and the headline of them, where servers and their clients are as it supposes.
--
-- To use it: `apply_in_one_go` ensures a run in one go, unless nothing was sent, and `RunsInOneGoHaveTheHeadline` gives
-- the headline of its calls. For a world that is as the survey showed the servers, and events that are these calls with
-- calls of clients between them, that is the seven clauses.
use Rattle.std.specs.Prelude.{◌≡◌, ◌⊎◌, ℕ, ◌+◌, Bool, true, false, List, [], ◌∷◌, ◌++◌}
use Rattle.cluster_admin.specs.declared.admin.AdminReply.{AdminReply}
use Rattle.cluster_world.specs.Honesty.{Honest}
use Rattle.cluster_world.specs.Servers.{ServerRun}
use Rattle.cluster_admin.specs.Surveys.{Survey}
use Rattle.cluster_world.specs.Worlds.{World}
use Rattle.cluster_admin.specs.declared.call.AdminCall.{AdminCall}
use Rattle.cluster_world.specs.declared.event.Event.{Event}
use Rattle.plan_language.specs.PlanView.{PlanView}
use Rattle.plan_runner.specs.Verifying.{IsVerified}
use Rattle.plan_semantics.specs.Driving.{called}
use Rattle.cluster_world.specs.AdminCalls.{calls}
use Rattle.reshard_theorem.specs.Starts.{Reshard}
use Rattle.plan_semantics.specs.declared.order.Order.{Order}
use Rattle.server_runs.specs.InOneGo.{state_of, calls_in}
use Rattle.server_runs.specs.PlanCalls.{start_of}
use Rattle.server_headlines.specs.ServersRuns.{IsLost, IsSurveyed}
use Rattle.server_runs.specs.declared.run_end.RunEnd.{RunEnd}
use Rattle.server_runs.specs.declared.slot_owner.SlotOwner.{SlotOwner}
use Rattle.telling_order.specs.OneGo.{AreToldInOneGo}
use Rattle.telling_order.specs.SeenCalls.{AreReordered, HoldsInAnyOrder}
use Rattle.server_runs.specs.ServersInOneGo.{AreToldNext, IsRunInOneGo}
use Rattle.redis_servers.specs.declared.port.ServersPort as port
use Rattle.server_links.specs.Streams.{Streams}

-- What servers saw of calls that were answered, each group of which was sent before its replies were read: a part of
-- them, from the beginning, in another order; or all of them, and after them the command that was lost; or all of them,
-- and after them some that tell other nodes in one go, in any order and whatever they replied.
abbrev pub AreSeenInAnyOrder : (cs : List AdminCall) → (lost : Order → Type 0)
    → (told_next : SlotOwner → List ℕ → Type 0) → (seen : List AdminCall) → Type 0
AreSeenInAnyOrder cs lost told_next seen =
    (between : List (List AdminCall)) × (other : List AdminCall) × AreReordered cs between other
    × (((later : List AdminCall) × (other ≡ seen ++ later))
    ⊎ ((s : Order) × (reply : AdminReply) × lost s × (seen ≡ other ++ called s.node s.command reply ∷ []))
    ⊎ ((x : SlotOwner) × (nodes : List ℕ) × (told : List AdminCall) × told_next x nodes
    × AreToldInOneGo x.slot x.owner nodes told × (seen ≡ other ++ told)))

-- Where the plan was verified for the survey, the headline holds in each world that is as the survey showed the
-- servers, whatever clients ask between the calls that servers saw, if each server answers each event as the
-- definitions let a server answer, and clients are honest.
abbrev pub HasHeadlineInAnyOrder : PlanView → Survey → (cs : List AdminCall) → (end : RunEnd) → Type 0
HasHeadlineInAnyOrder plan v cs end = (reshard : Reshard) (events : List Event) (last : World) → IsVerified plan v
    → IsSurveyed plan v reshard → ServerRun reshard.first events last → Honest reshard.first reshard.before events
    → AreSeenInAnyOrder cs (IsLost (start_of plan v) cs (state_of end)) (AreToldNext plan v cs) (calls events)
    → HoldsInAnyOrder reshard events last

-- every run of a plan of which others were told in one go has it
abbrev pub RunsInOneGoHaveTheHeadline : {I O : Type 0} → Streams I O → (P : Type 0) → Type 0
RunsInOneGoHaveTheHeadline {I} {O} by P = (plan : PlanView) (v : Survey) (first : port.ServersPort I O P)
    (end : RunEnd) → (run : IsRunInOneGo by plan v first end)
    → HasHeadlineInAnyOrder plan v (calls_in run.groups) end
