use Rattle.cluster_survey.proofs.Placing.{Placed}
use Rattle.cluster_survey.proofs.masters.servers_in.Given as goal

-- the masters before, in order
abbrev pub invariant-loop-index : goal.invariant-loop-index
invariant-loop-index l = Placed l.lines l.index l.servers.items
