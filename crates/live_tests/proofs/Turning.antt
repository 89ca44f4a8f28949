-- A plan that took its turn fits the cluster still.
use Rattle.std.proofs.Common.{◌≡◌, ℕ, List, refl, sym, ◌∙◌}
use Rattle.cluster_admin.specs.declared.call.AdminCall.{AdminCall}
use Rattle.plan_runner.specs.Advancing.{PortSteps, Sends, plan_of, seat_of}
use Rattle.plan_runner.specs.declared.running.RunningPlan.{RunningPlan}
use Rattle.plan_runner.specs.declared.running.Taken.{Taken}
use Rattle.plan_runner.specs.declared.running.Taken.TheVariants.{Running, Done, Stopped}
use Rattle.plan_runner.proofs.Going.{run_on, sends_on}
use Rattle.live_tests.specs.Turns.{Fits}

pub turn_fits : {P : Type 0} (by : PortSteps P) (n : ℕ) (first last : P) (p : RunningPlan (List AdminCall)) (t : Taken (List AdminCall))
    → n ≡ p.progress.nodes
    → Sends by (record { port = first; calls = p.seat })
    (record { port = last; calls = seat_of t }) p.progress (plan_of t) → Fits t n
turn_fits by n first last p (Running q) fits sends =
    let state = plan_of (Running q) in
    let s = sends_on by first last p.progress q.progress p.seat q.seat state refl sends in
    fits ∙ sym (run_on p.progress q.progress s.0.reply s.2).0
turn_fits by n first last p (Done d) fits sends = tt
turn_fits by n first last p (Stopped d) fits sends = tt
