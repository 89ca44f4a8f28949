use Rattle.std.proofs.Common.{◌≡◌, drop}
use Rattle.cluster_survey.specs.Arranging.{names_fault}
use Rattle.cluster_survey.proofs.arranging.names_fault.Given as goal

-- no name before has a fault
abbrev pub invariant-loop-node : goal.invariant-loop-node
invariant-loop-node l = names_fault l.lines l.servers l.names ≡ names_fault l.lines l.servers (drop l.node-index l.names)
