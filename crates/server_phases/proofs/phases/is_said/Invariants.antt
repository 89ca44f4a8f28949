use Rattle.std.proofs.Common.{◌≡◌, ℕ, ◌<◌}
use Rattle.cluster_admin.specs.Surveys.{owner_at}
use Rattle.server_phases.proofs.phases.is_said.Given as goal

abbrev pub invariant-loop-number : goal.invariant-loop-number
invariant-loop-number l = (n : ℕ) → n < l.number → owner_at l.survey n l.slot ≡ l.owner → ⊥
