use Rattle.std.proofs.Common.{refl}
use Rattle.redis_servers.proofs.Useless.{no_role}
use Rattle.redis_servers.proofs.looking.role_in.Goals as goal

pub returns-in_default : goal.returns-in_default
returns-in_default c = (
  refl,
  no_role c.args.login.now c.args.node c.args.reply.now c.useless_words.result c.in_default.not-Array
      c.useless_words.ensures,
)
