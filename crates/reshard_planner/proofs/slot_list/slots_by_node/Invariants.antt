use Rattle.reshard_planner.proofs.Walking.{AreListed}
use Rattle.reshard_planner.proofs.slot_list.slots_by_node.Given as goal

abbrev pub invariant-loop-place : goal.invariant-loop-place
invariant-loop-place l = AreListed l.starts l.place l.nodes l.lists.items l.owners.owners
