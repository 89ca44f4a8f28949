use Rattle.std.proofs.Common.{◌≡◌, refl, rules, subst, sym}
use Rattle.std.specs.Prelude.{MatchResult}
use Rattle.cluster_admin.specs.Surveys.{IsOpenSurvey}
use Rattle.script_lines.specs.declared.fault.Halt.TheVariants.{Memory}
use Rattle.rehearsal.specs.PlanReading.{Arms}
use Rattle.rehearsal.specs.RecordedSteps.{seated}
use Rattle.rehearsal.proofs.Playing.{told_illegal}
use Rattle.rehearsal.proofs.plan_reading.verify_and_arm.Goals as goal

pub arm-requires-clause-phases : goal.arm-requires-clause-phases
arm-requires-clause-phases c = subst (λ v. IsOpenSurvey v.survey) (sym c.in-Ok.ensures.accepted) c.requires.phases

pub returns-in-Ok-clause-arms : goal.returns-in-Ok-clause-arms
returns-in-Ok-clause-arms c =
    subst (λ v. MatchResult c.arm.result
    (Arms v.plan v.survey (seated c.args.recorded c.args.seat) c.args.transcript.now c.arm.new.transcript) (λ h. h ≡ Memory))
    c.in-Ok.ensures.accepted c.arm.ensures.arms

pub returns-in_ok-report_not_legal-in-Err-clause-arms : goal.returns-in_ok-report_not_legal-in-Err-clause-arms
returns-in_ok-report_not_legal-in-Err-clause-arms c =
    (refl, refl, told_illegal c.args.plan c.args.survey.now c.args.recorded c.args.transcript.now c.report_not_legal.new.self c.in-Err.fault (search rules) c.in_ok-report_not_legal-in-Err.ensures)
