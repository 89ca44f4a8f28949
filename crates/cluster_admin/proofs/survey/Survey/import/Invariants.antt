use Rattle.std.proofs.Common.{◌≡◌, ℕ, ◌<◌, None}
use Rattle.cluster_admin.specs.Surveys.{importing_at}
use Rattle.cluster_admin.proofs.survey.Survey.import.Given as goal

abbrev pub invariant-loop-number : goal.invariant-loop-number
invariant-loop-number l = (n : ℕ) → n < l.number → importing_at l.self n l.slot ≡ None
