use Rattle.redis_servers.proofs.Useless.{strange_outcome}
use Rattle.redis_servers.proofs.commanding.outcome_of.Goals as goal

pub returns-in-Ok-Strange : goal.returns-in-Ok-Strange
returns-in-Ok-Strange c =
    strange_outcome c.args.setup.now c.args.history.now c.args.node c.args.command.now c.args.reply.now c.in-Ok-Strange.field-0
    c.lost-in-Ok-Strange.result.given c.lost-in-Ok-Strange.result.said c.useless_words-in-Ok-Strange.result
    c.in-Ok-Strange.field-0-is c.in-Ok-Strange.ensures c.lost-in-Ok-Strange.ensures.given
    c.lost-in-Ok-Strange.ensures.said c.useless_words-in-Ok-Strange.ensures
