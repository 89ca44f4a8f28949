use Rattle.std.proofs.Common.{ℕ, ◌<◌}
use Rattle.cluster_admin.specs.Surveys.{StandsIn, phase_seen}
use Rattle.cluster_admin.proofs.survey.Survey.is_in.Given as goal

abbrev pub invariant-loop-number : goal.invariant-loop-number
invariant-loop-number l = (n : ℕ) → n < l.number → StandsIn l.self l.slot (phase_seen l.self l.slot l.phase) n
