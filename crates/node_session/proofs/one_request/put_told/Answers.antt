use Rattle.node_session.proofs.Answered.{said_behind, said_broken}
use Rattle.node_session.proofs.one_request.put_told.Goals as goal

pub returns-in-Ok-clause-wrote : goal.returns-in-Ok-clause-wrote
returns-in-Ok-clause-wrote g c =
    let w = c.in-Ok.ensures.wrote in
    (w.0, w.1, w.2, said_behind c.end_after.result w.0 c.args.request.now c.args.answer.now c.end_after.ensures.goes_on c.end_after.ensures.quits w.3)

pub returns-in-Err-clause-wrote : goal.returns-in-Err-clause-wrote
returns-in-Err-clause-wrote g c =
    let w = c.in-Err.ensures.wrote in
    (w.0, w.1, w.2, said_broken c.in-Err.end w.0 c.args.request.now c.args.answer.now w.3)
