use Rattle.node_session.proofs.Answered.{answered_one, told_one}
use Rattle.node_session.proofs.one_request.answer_one.Goals as goal

pub returns-in-Some-clause-talk : goal.returns-in-Some-clause-talk
returns-in-Some-clause-talk g c =
    told_one _ _ _ g.P.NodePort.sends g.Q.Questions.hears g.Q.Questions.tells g.W.ByteOut.took g.W.ByteOut.failures c.args.node c.args.port.now c.args.questions.now _ c.args.writer.now _ c.args.sent.now _ c.args.asking c.args.request c.in-Some.reply c.put_told.result c.in-Some.ensures c.put_told.ensures.wrote

pub returns-in-None-clause-talk : goal.returns-in-None-clause-talk
returns-in-None-clause-talk g c =
    answered_one _ _ _ g.P.NodePort.sends g.Q.Questions.hears g.Q.Questions.tells g.W.ByteOut.took g.W.ByteOut.failures c.args.node c.args.port.now _ c.args.questions.now _ c.args.writer.now _ c.args.sent.now _ c.args.asking c.args.request c.answer-reply.result c.put_answer.result c.in-None.ensures c.answer-reply.ensures.answers c.put_answer.ensures.wrote
