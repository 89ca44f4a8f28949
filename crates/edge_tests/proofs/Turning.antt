-- A plan that took its turn fits the world still.
use Rattle.std.proofs.Common.{◌≡◌, List, length, refl, sym, ◌∙◌}
use Rattle.cluster_world.specs.Worlds.{World}
use Rattle.cluster_world.specs.Ports.{IsAdminFault}
use Rattle.cluster_world.specs.Steps.{by_call}
use Rattle.cluster_admin.specs.declared.call.AdminCall.{AdminCall}
use Rattle.plan_runner.specs.Advancing.{Sends, plan_of, seat_of}
use Rattle.plan_runner.specs.declared.running.RunningPlan.{RunningPlan}
use Rattle.plan_runner.specs.declared.running.Taken.{Taken}
use Rattle.plan_runner.specs.declared.running.Taken.TheVariants.{Running, Done, Stopped}
use Rattle.plan_runner.proofs.Going.{run_on, sends_on}
use Rattle.edge_tests.specs.Turns.{Fits}

pub turn_fits : (first last : World) (p : RunningPlan (List AdminCall)) (t : Taken (List AdminCall))
    → length first.nodes ≡ p.progress.nodes → length last.nodes ≡ length first.nodes
    → Sends (record { moves = by_call; fails = IsAdminFault }) (record { port = first; calls = p.seat })
    (record { port = last; calls = seat_of t }) p.progress (plan_of t) → Fits t last
turn_fits first last p (Running q) fits count sends =
    let state = plan_of (Running q) in
    let s = sends_on (record { moves = by_call; fails = IsAdminFault }) first last p.progress q.progress p.seat q.seat state refl sends in
    count ∙ fits ∙ sym (run_on p.progress q.progress s.0.reply s.2).0
turn_fits first last p (Done d) fits count sends = tt
turn_fits first last p (Stopped d) fits count sends = tt
