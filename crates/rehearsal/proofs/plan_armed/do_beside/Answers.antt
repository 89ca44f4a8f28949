use Rattle.rehearsal.proofs.Underway.{answered_keeps}
use Rattle.rehearsal.proofs.plan_armed.do_beside.Goals as goal

pub returns-in-Call-clause-plans : goal.returns-in-Call-clause-plans
returns-in-Call-clause-plans c =
    let p = c.in_ok-answer_call-in-Call.ensures.answered in
    answered_keeps c.args.recorded.now c.answer_call.new.recorded c.in-Call.node c.in-Call.asking c.in-Call.request p.0
    p.1
