use Rattle.reshard_planner.proofs.Planned.{rebalances_are_legal, rebalances_move_fewest}
use Rattle.reshard_planner.proofs.laws.planned_rebalances_are_legal.Goals as goal

pub returns-clause-legal : goal.returns-clause-legal
returns-clause-legal c = rebalances_are_legal

pub returns-clause-fewest : goal.returns-clause-fewest
returns-clause-fewest c = rebalances_move_fewest
