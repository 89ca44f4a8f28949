use Rattle.node_forgetting.proofs.Says.{listed_says}
use Rattle.node_forgetting.specs.Telling.{asking_of}
use Rattle.node_forgetting.proofs.forgetting.listed_answer.Goals as goal

pub returns-in-Ok-clause-says : goal.returns-in-Ok-clause-says
returns-in-Ok-clause-says g c =
    let asking = asking_of g.D.Reach.reaches g.D.Reach.refuses
    (record { gave = g.D.Input.ByteIn.gave; took = g.D.Output.ByteOut.took }) c.args.credentials.now g.T.Countdown.over
    in
    listed_says asking c.args.credentials.now c.args.leaving.now.node c.args.leaving.now.server.now c.in-Ok.lines
    c.get-in-Ok.result.now c.others_answer.result (_, c.view_of.new.link, c.in-Ok.ensures) c.get-in-Ok.ensures
    c.others_answer.ensures.says
