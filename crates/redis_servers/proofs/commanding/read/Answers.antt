use Rattle.redis_servers.proofs.Checks.{not_excused}
use Rattle.redis_servers.specs.Calls.{IsExcused}
use Rattle.redis_servers.proofs.commanding.read.Goals as goal

pub returns-then-is_excuse : goal.returns-then-is_excuse
returns-then-is_excuse c =
    not_excused (IsExcused c.args.setup.now c.args.history.now c.args.node c.args.command.now) c.args.node c.args.command.now
    c.args.reply.now _ c.get.result.now c.in_ok-try_copy.field-0 c.is_excuse.result c.is_excused.result
    c.in-Error.is c.get.ensures.value c.is_excuse.ensures c.if-is_excuse.true c.is_excused.ensures c.if-is_excused.false
    c.in_ok-try_copy.ensures
