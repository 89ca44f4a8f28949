use Rattle.rehearsal.proofs.Recording.{answered}
use Rattle.rehearsal.proofs.seat_free.answer_call.Goals as goal

pub returns-clause-record : goal.returns-clause-record
returns-clause-record c =
    (answered c.args.recorded.now c.reply_to.new.recorded c.put.new.self c.args.node c.args.asking c.args.request
    c.in_ok-reply.reply c.requires.record c.put.ensures c.in_ok-reply.ensures.replied).1

pub returns-clause-answered : goal.returns-clause-answered
returns-clause-answered c = (
  c.in_ok-reply.reply,
  (answered c.args.recorded.now c.reply_to.new.recorded c.put.new.self c.args.node c.args.asking c.args.request
      c.in_ok-reply.reply c.requires.record c.put.ensures c.in_ok-reply.ensures.replied).0,
  c.in_ok-reply-2.ensures,
)
