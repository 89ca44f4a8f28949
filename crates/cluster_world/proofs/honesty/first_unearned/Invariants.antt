use Rattle.cluster_world.proofs.Searched.{SoFar}
use Rattle.cluster_world.proofs.honesty.first_unearned.Given as goal

abbrev pub invariant-loop-place : goal.invariant-loop-place
invariant-loop-place l = SoFar l.base_port l.owners l.events l.place l.marks l.errors
