use Rattle.redis_servers.proofs.Useless.{error_kept, strange_kept}
use Rattle.redis_servers.proofs.words.useless_words.Goals as goal

pub returns-in_default : goal.returns-in_default
returns-in_default c =
    strange_kept (λ v. v.items) c.args.login.now c.args.node c.args.reply.now c.strange_words.result
    c.kept-in_default.result c.in_default.not-Error c.strange_words.ensures c.kept-in_default.ensures

pub returns-in-Error : goal.returns-in-Error
returns-in-Error c =
    error_kept (λ v. v.items) c.args.login.now c.args.node c.args.reply.now _ c.get.result.now
    c.error_words.result c.kept.result c.in-Error.is c.get.ensures.value c.error_words.ensures c.kept.ensures
