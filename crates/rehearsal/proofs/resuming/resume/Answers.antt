use Rattle.rehearsal.proofs.Playing.{took_up}
use Rattle.rehearsal.proofs.resuming.resume.Goals as goal

pub returns-in-Ok-resume-clause-takes : goal.returns-in-Ok-resume-clause-takes
returns-in-Ok-resume-clause-takes c =
    took_up c.args.batch c.args.recorded c.args.seat c.survey.new._seat c.args.transcript.now
    c.verify_and_arm.new.transcript c.in-Ok-resume.plan c.in-Ok.survey c.verify_and_arm.result c.in-Ok.ensures.gives
    c.survey.ensures.calls c.in-Ok-resume.ensures.exact c.verify_and_arm.ensures.arms
