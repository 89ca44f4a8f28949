use Rattle.std.specs.Prelude.{vec_len}
use Rattle.plan_previews.proofs.now.look.Goals as goal

pub returns-clause-seen : goal.returns-clause-seen
returns-clause-seen g c = (
  c.in_ok-servers.servers.book,
  c.in_ok-servers.servers.surveyed.survey,
  c.in_ok-servers.servers.surveyed.epochs.items,
  vec_len c.in_ok-servers.servers.links,
  c.in_ok-servers.ensures.found,
  c.in_ok-seen.ensures,
)
