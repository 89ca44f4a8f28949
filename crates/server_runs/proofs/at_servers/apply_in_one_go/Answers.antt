use Rattle.std.proofs.Common.{◌≡◌, ◌∙◌, ap, inl, inr, refl, subst}
use Rattle.plan_runner.specs.Faults.{arm_fault_text}
use Rattle.plan_runner.specs.ProgressView.{Progress}
use Rattle.server_runs.specs.InOneGo.{RunsInOneGo}
use Rattle.server_runs.specs.PlanCalls.{start_of}
use Rattle.server_runs.proofs.RanInOneGo.{is_run}
use Rattle.server_runs.proofs.Started.{on_ok_then}
use Rattle.transcripts.specs.OutcomeTexts.{Prints, refused_text}
use Rattle.server_runs.proofs.at_servers.apply_in_one_go.Goals as goal

pub returns : goal.returns
returns g c =
    let told = c.in-Ok.ensures in
    let start : c.start.result.progress ≡ start_of c.args.plan.plan c.args.plan.survey =
    c.start.ensures.progress ∙ ap (λ a. start_of a.plan.plan a.plan.survey) told.2 in
    let runs =
    subst (λ (q : Progress). RunsInOneGo (record { gave = g.I.ByteIn.gave; took = g.O.ByteOut.took })
    (record { sees = g.W.Watcher.sees; hears = g.W.Watcher.hears; misses = g.W.Watcher.misses })
    (c.args.port.now, c.args.watcher.now) (c.run_in_one_go-end.new.port, c.run_in_one_go-end.new.watcher) q
    c.run_in_one_go-end.result) start c.run_in_one_go-end.ensures in
    let is =
    is_run (record { gave = g.I.ByteIn.gave; took = g.O.ByteOut.took })
    (record { sees = g.W.Watcher.sees; hears = g.W.Watcher.hears; misses = g.W.Watcher.misses }) c.args.plan.plan
    c.args.plan.survey (c.args.port.now, c.args.watcher.now)
    (c.run_in_one_go-end.new.port, c.run_in_one_go-end.new.watcher) c.run_in_one_go-end.result runs in
    on_ok_then c.report_end.result _ _ c.report_end.ensures
    (λ prints. inr (c.run_in_one_go-end.result, told.0.0 refl, runs, prints, is))

pub returns-in-Err : goal.returns-in-Err
returns-in-Err g c =
    on_ok_then c.report_not_armed.result _ _ c.report_not_armed.ensures
    (λ prints. inl (
      refl,
      subst
          (λ f. Prints c.args.transcript.now c.report_not_armed.new.self (refused_text (arm_fault_text f)) 1)
          (ap (λ e. e.2) c.in-Err.ensures.1) prints,
    ))
