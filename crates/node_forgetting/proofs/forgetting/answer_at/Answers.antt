use Rattle.std.proofs.Common.{IfOk, subst}
use Rattle.server_commands.specs.Servers.{server_at}
use Rattle.node_forgetting.proofs.Says.{free_says, known_says}
use Rattle.node_forgetting.specs.Forgetting.{SaysFree, SaysForgotten}
use Rattle.node_forgetting.specs.Telling.{asking_of}
use Rattle.node_forgetting.proofs.forgetting.answer_at.Goals as goal

pub returns-clause-says : goal.returns-clause-says
returns-clause-says g c =
    let asking = asking_of g.D.Reach.reaches g.D.Reach.refuses
    (record { gave = g.D.Input.ByteIn.gave; took = g.D.Output.ByteOut.took }) c.args.credentials.now g.T.Countdown.over
    in
    free_says asking c.args.credentials.now c.args.node (server_at c.args.servers.book c.args.node)
    c.args.servers.surveyed.survey c.hold.result c.hold.ensures c.free_answer.result c.in-None.is
    (subst (λ s. IfOk c.free_answer.result
    (λ t. SaysFree asking c.args.credentials.now c.args.node s t.status t.printed.items)) c.server-server.ensures
    c.free_answer.ensures.says)

pub returns-clause-known : goal.returns-clause-known
returns-clause-known g c =
    let asking = asking_of g.D.Reach.reaches g.D.Reach.refuses
    (record { gave = g.D.Input.ByteIn.gave; took = g.D.Output.ByteOut.took }) c.args.credentials.now g.T.Countdown.over
    in
    known_says asking c.args.credentials.now c.args.node (server_at c.args.servers.book c.args.node)
    c.args.servers.surveyed.survey c.free_answer.result
    (free_says asking c.args.credentials.now c.args.node (server_at c.args.servers.book c.args.node)
    c.args.servers.surveyed.survey c.hold.result c.hold.ensures c.free_answer.result c.in-None.is
    (subst (λ s. IfOk c.free_answer.result
    (λ t. SaysFree asking c.args.credentials.now c.args.node s t.status t.printed.items)) c.server-server.ensures
    c.free_answer.ensures.says))
