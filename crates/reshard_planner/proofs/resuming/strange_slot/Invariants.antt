use Rattle.std.proofs.Common.{ℕ, ◌<◌}
use Rattle.cluster_admin.specs.Phases.{Phase}
use Rattle.cluster_admin.specs.Surveys.{HasPhaseIn}
use Rattle.reshard_planner.proofs.resuming.strange_slot.Given as goal

-- the slots below this one have phases
abbrev pub invariant-loop-number : goal.invariant-loop-number
invariant-loop-number l = (s : ℕ) → s < l.number → (p : Phase) × HasPhaseIn l.survey s p
