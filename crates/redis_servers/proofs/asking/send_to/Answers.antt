use Rattle.std.proofs.Common.{List, subst}
use Rattle.server_links.specs.declared.link.Link as link
use Rattle.redis_servers.specs.Asking.{IsSilent}
use Rattle.redis_servers.proofs.asking.send_to.Goals as goal

pub returns-in-Err-clause-sent : goal.returns-in-Err-clause-sent
returns-in-Err-clause-sent g c = (
  c.in-Err.ensures.sent,
  subst (λ (ls : List (link.Link g.row.I.Denot g.row.O.Denot)). IsSilent c.args.node ls c.silence_at.result) c.as_slice.ensures.value c.silence_at.ensures,
)
