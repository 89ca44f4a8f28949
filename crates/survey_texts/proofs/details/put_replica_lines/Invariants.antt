use Rattle.std.proofs.Common.{◌≡◌, ◌++◌, take}
use Rattle.survey_texts.specs.Details.{replica_lines}
use Rattle.survey_texts.proofs.details.put_replica_lines.Given as goal

-- the lines of those before this one
abbrev pub invariant-loop-replica : goal.invariant-loop-replica
invariant-loop-replica l = l.out.items ≡ l.initial.out.items ++ replica_lines (take l.replica-index l.replicas)
