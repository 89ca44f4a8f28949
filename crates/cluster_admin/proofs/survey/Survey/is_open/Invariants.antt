use Rattle.std.proofs.Common.{ℕ, ◌<◌}
use Rattle.cluster_admin.specs.Phases.{Phase}
use Rattle.cluster_admin.specs.Surveys.{HasPhaseIn}
use Rattle.cluster_admin.proofs.survey.Survey.is_open.Given as goal

abbrev pub invariant-loop-number : goal.invariant-loop-number
invariant-loop-number l = (s : ℕ) → s < l.number → (p : Phase) × HasPhaseIn l.self s p
