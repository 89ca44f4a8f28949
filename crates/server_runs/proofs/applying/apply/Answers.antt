use Rattle.std.proofs.Common.{rules, ◌≡◌, ◌∙◌, OnOk, ap, inl, inr}
use Rattle.server_runs.proofs.Started.{on_ok_then, runs_from_start}
use Rattle.server_runs.proofs.applying.apply.Goals as goal

pub returns : goal.returns
returns g c =
    let told = c.in-Ok.ensures in
    let runs =
    runs_from_start
    (record { moves = g.P.AdminPort.moves; fails = g.P.AdminPort.fails; sees = g.W.Watcher.sees; hears = g.W.Watcher.hears; misses = g.W.Watcher.misses })
    g.P.AdminPort.calls (c.args.port.now, c.args.watcher.now)
    (c.run_watched-finish.new.port, c.run_watched-finish.new.watcher) c.args.plan.plan c.in-Ok.armed.plan.plan
    c.args.plan.survey c.in-Ok.armed.plan.survey c.args.seat c.start.result.seat c.start.result.progress
    c.run_watched-finish.result (ap (λ a. a.plan.plan) told.2) (ap (λ a. a.plan.survey) told.2)
    (c.start.ensures.seat ∙ ap (λ a. a.seat) told.2) c.start.ensures.progress c.run_watched-finish.ensures.runs in
    on_ok_then c.report.result _ _ c.report.ensures (λ prints. inr (told.0, (c.run_watched-finish.result, runs, prints)))
