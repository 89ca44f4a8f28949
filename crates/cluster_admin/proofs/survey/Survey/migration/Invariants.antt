use Rattle.std.proofs.Common.{◌≡◌, ℕ, ◌<◌, None}
use Rattle.cluster_admin.specs.Surveys.{migrating_at}
use Rattle.cluster_admin.proofs.survey.Survey.migration.Given as goal

abbrev pub invariant-loop-number : goal.invariant-loop-number
invariant-loop-number l = (n : ℕ) → n < l.number → migrating_at l.self n l.slot ≡ None
