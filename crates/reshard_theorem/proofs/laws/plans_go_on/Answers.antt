use Rattle.reshard_theorem.proofs.laws.plans_go_on.Goals as goal
use Rattle.reshard_theorem.proofs.Landed.{stays_below_cost}
use Rattle.reshard_theorem.proofs.Landed.{source_gains_nothing}
use Rattle.reshard_theorem.proofs.Landed.{some_command_goes_on}
use Rattle.reshard_theorem.proofs.Landed.{within_its_cost}

pub returns-clause-cost : goal.returns-clause-cost
returns-clause-cost c = within_its_cost

pub returns-clause-gains : goal.returns-clause-gains
returns-clause-gains c = source_gains_nothing

pub returns-clause-next : goal.returns-clause-next
returns-clause-next c = some_command_goes_on

pub returns-clause-below : goal.returns-clause-below
returns-clause-below c = stays_below_cost
