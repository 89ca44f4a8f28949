use Rattle.std.proofs.Common.{◌<◌, ℕ}
use Rattle.server_commands.specs.Servers.{server_at}
use Rattle.cluster_survey.specs.Masters.{place}
use Rattle.cluster_survey.proofs.masters.gap_at.Given as goal

-- all before have lower places
abbrev pub invariant-loop-index : goal.invariant-loop-index
invariant-loop-index l = (k : ℕ) → k < l.index → place (server_at l.servers k) < l.number
