use Rattle.std.proofs.Common.{subst}
use Rattle.redis_servers.specs.Saying.{SaysWhy}
use Rattle.redis_servers.proofs.asking.silence_at.Goals as goal

pub returns : goal.returns
returns g c = (
  c.link_of-link.result.now,
  c.link_of-link.ensures,
  subst (λ f. SaysWhy c.args.node f c.silence.result) c.fault.ensures c.silence.ensures,
)
