use Rattle.node_forgetting.proofs.Outcomes.{outcome_asked}
use Rattle.node_forgetting.proofs.telling.tell.Goals as goal

pub returns-in-Ok : goal.returns-in-Ok
returns-in-Ok g c =
    outcome_asked (λ v. v.items) c.args.credentials.now g.D.Reach.reaches g.D.Reach.refuses
    (record { gave = g.D.Input.ByteIn.gave; took = g.D.Output.ByteOut.took }) g.T.Countdown.over c.args.id.now
    c.args.server.now c.in-Some.address _ c.answer_of.new.link c.answer_of.result c.in-Some.ensures c.in-Ok.ensures
    c.answer_of.ensures
