use Rattle.plan_runner.proofs.laws.plans_that_run_on_are_spelt.Goals as goal
use Rattle.plan_runner.proofs.Taking.{taking_spells}

pub returns : goal.returns
returns c = taking_spells
