use Rattle.std.proofs.Common.{◌≡◌, ℕ, ◌<◌, length}
use Rattle.cluster_admin.specs.Phases.{Phase}
use Rattle.cluster_admin.specs.Surveys.{HasPhaseIn}
use Rattle.plan_runner.specs.Standing.{first_progress, slot_at}
use Rattle.plan_semantics.specs.Surveyed.{node_count}
use Rattle.plan_runner.proofs.plan_check.PlanCheck.new.Given as goal

-- the slots below this one are in their phases
abbrev pub invariant-loop-number : goal.invariant-loop-number
invariant-loop-number g l =
    (length l.slots.items ≡ 16384)
    × ((s : ℕ) → s < l.number → (p : Phase) → HasPhaseIn l.survey s p → slot_at l.slots.items s ≡ first_progress (node_count l.survey) p)
