use Rattle.reshard_planner.proofs.Walking.{AreCounted}
use Rattle.reshard_planner.proofs.held.held_by_node.Given as goal

abbrev pub invariant-loop-place : goal.invariant-loop-place
invariant-loop-place l = AreCounted l.starts l.place l.held l.owners.owners
