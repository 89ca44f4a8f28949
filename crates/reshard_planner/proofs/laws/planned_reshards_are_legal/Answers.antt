use Rattle.reshard_planner.proofs.Planned.{reshards_are_legal, reshards_move_all}
use Rattle.reshard_planner.proofs.laws.planned_reshards_are_legal.Goals as goal

pub returns-clause-legal : goal.returns-clause-legal
returns-clause-legal c = reshards_are_legal

pub returns-clause-moves : goal.returns-clause-moves
returns-clause-moves c = reshards_move_all
