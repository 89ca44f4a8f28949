use Rattle.std.proofs.Common.{◌-◌, ◌^◌, refl, rules}
use Rattle.rehearsal.proofs.Playing.{told_changed}
use Rattle.rehearsal.proofs.Underway.{armed}
use Rattle.rehearsal.proofs.plan_reading.arm.Goals as goal

pub returns-in_ok-report_not_armed-in-Err-clause-arms : goal.returns-in_ok-report_not_armed-in-Err-clause-arms
returns-in_ok-report_not_armed-in-Err-clause-arms c =
    (refl, (search rules), told_changed c.args.plan.plan c.args.plan.survey c.args.recorded c.args.transcript.now c.report_not_armed.new.self c.in-Err.fault c.requires.legal c.in-Err.ensures.0 (search rules) c.in_ok-report_not_armed-in-Err.ensures)

pub report_armed-requires-clause-underway : goal.report_armed-requires-clause-underway
report_armed-requires-clause-underway c =
    armed c.args.recorded c.args.plan.plan c.args.plan.survey (2 ^ 64 - 1) c.start.result.progress c.requires.record
    c.requires.phases c.in-Ok.ensures.0 c.requires.legal (rw c.in-Ok.ensures.2 at c.start.ensures.progress)
