use Rattle.telling_order.proofs.Plans.{costs_the_same, leaves_the_same, stays_legal}
use Rattle.telling_order.proofs.laws.others_are_told_in_any_order.Goals as goal

pub returns-clause-legal : goal.returns-clause-legal
returns-clause-legal c = stays_legal

pub returns-clause-owners : goal.returns-clause-owners
returns-clause-owners c = leaves_the_same

pub returns-clause-cost : goal.returns-clause-cost
returns-clause-cost c = costs_the_same
