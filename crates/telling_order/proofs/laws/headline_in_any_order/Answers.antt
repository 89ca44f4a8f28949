use Rattle.telling_order.proofs.Plans.{in_any_order, in_any_order_at_servers}
use Rattle.telling_order.proofs.laws.headline_in_any_order.Goals as goal

pub returns-clause-world : goal.returns-clause-world
returns-clause-world c = in_any_order c.headline.ensures.holds

pub returns-clause-servers : goal.returns-clause-servers
returns-clause-servers c = in_any_order_at_servers c.headline_over_servers.ensures.holds
