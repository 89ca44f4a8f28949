use Rattle.reshard_theorem.proofs.Landed.{headline_over_plans}
use Rattle.reshard_theorem.proofs.laws.headline_over_plans.Goals as goal

pub returns : goal.returns
returns c = headline_over_plans
