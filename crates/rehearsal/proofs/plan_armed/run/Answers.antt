use Rattle.plan_runner.specs.Advancing.{last_seat}
use Rattle.rehearsal.proofs.Running.{ran, run_recorded}
use Rattle.rehearsal.proofs.plan_armed.run.Goals as goal

pub returns-clause-ran : goal.returns-clause-ran
returns-clause-ran c =
    let runs = c.run-finish in
    ran
    c.args.recorded
    runs.new.port
    c.args.plan
    runs.result
    c.in_ok-seat.seat
    c.args.transcript.now
    c.report_finish.new.transcript
    c.plans_run_over_worlds_take_their_cost.ensures.runs
    runs.ensures.runs
    c.in_ok-seat.ensures

pub returns-clause-kept : goal.returns-clause-kept
returns-clause-kept c =
    let runs = c.run-finish in
    run_recorded
    c.args.recorded
    runs.new.port
    c.args.plan.progress
    c.args.plan.seat
    (last_seat runs.result)
    runs.result
    c.requires.record
    runs.ensures.runs
