use Rattle.reshard_theorem.proofs.QuietCosts.{quiet_cost_is, stays_below_quiet_cost}
use Rattle.reshard_theorem.proofs.laws.quiet_plans_cost_what_the_store_says.Goals as goal

pub returns-clause-cost : goal.returns-clause-cost
returns-clause-cost c = quiet_cost_is

pub returns-clause-below : goal.returns-clause-below
returns-clause-below c = stays_below_quiet_cost
