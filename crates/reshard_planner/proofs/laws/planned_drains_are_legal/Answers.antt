use Rattle.reshard_planner.proofs.Drained.{drains_are_legal, drains_empty_sources}
use Rattle.reshard_planner.proofs.laws.planned_drains_are_legal.Goals as goal

pub returns-clause-legal : goal.returns-clause-legal
returns-clause-legal c = drains_are_legal

pub returns-clause-drains : goal.returns-clause-drains
returns-clause-drains c = drains_empty_sources
