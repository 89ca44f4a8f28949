use Rattle.std.proofs.Common.{◌≡◌, ◌∙◌, ◌++◌, ap, subst, sym}
use Rattle.loopback_servers.proofs.Carried.{done, ends_done}
use Rattle.loopback_servers.specs.Carrying.{EndsBy, plan_at_start}
use Rattle.loopback_servers.specs.declared.plan_beside.PlanEnd.TheVariants.{Done}
use Rattle.plan_runner.specs.Advancing.{Goes, plan_of}
use Rattle.loopback_servers.proofs.plan_beside.run_beside.Goals as goal

pub returns-in-Done : goal.returns-in-Done
returns-in-Done g c =
    let runs = c.in-Done.ensures.runs in
    let seat : c.start.result.seat ≡ c.args.seat = c.start.ensures.seat ∙ ap (λ a. a.seat) c.in-Ok.ensures.2 in
    let start : c.start.result.progress ≡ plan_at_start c.args.plan = c.start.ensures.progress ∙ ap (λ a. plan_at_start a.plan) c.in-Ok.ensures.2 in
    let by = ends_done c.args.plan c.args.seat c.in-Done.done.seat runs.0 c.in-Done.done.spent (runs.2 ∙ ap (λ s. s ++ runs.0) seat)
    (subst (λ p. Goes p runs.0 (plan_of (done c.in-Done.done.spent))) start runs.3) in
    subst (λ s. EndsBy c.args.plan c.args.seat s (Done c.cost_so_far-spent.result)) (sym c.into_seat.ensures)
    (subst (λ n. EndsBy c.args.plan c.args.seat c.in-Done.done.seat (Done n)) (sym c.cost_so_far-spent.ensures) by)
