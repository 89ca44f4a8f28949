use Rattle.std.proofs.Common.{ℕ, ◌<◌}
use Rattle.cluster_admin.specs.Surveys.{StandsIn}
use Rattle.server_phases.specs.ServerPhases.{modelled}
use Rattle.server_phases.proofs.phases.is_modelled.Given as goal

abbrev pub invariant-loop-number : goal.invariant-loop-number
invariant-loop-number l = (n : ℕ) → n < l.number → StandsIn l.survey l.slot (modelled l.phase) n
