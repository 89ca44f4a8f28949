use Rattle.cluster_runs.proofs.runs.+carry_on.Given as goal

abbrev pub decreases-carry_on : goal.decreases-carry_on
decreases-carry_on g l = l.left
