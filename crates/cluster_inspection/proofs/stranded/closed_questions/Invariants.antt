use Rattle.std.proofs.Common.{◌≡◌}
use Rattle.slot_key_counts.specs.Questions.{asked_owner}
use Rattle.slot_key_counts.specs.declared.questions.AskedNodes.TheVariants.{Others}
use Rattle.server_phases.specs.ServerPhases.{ServerPhases, ShowsPhases}
use Rattle.cluster_inspection.specs.Stranded.{closed_owner}
use Rattle.cluster_inspection.proofs.Filled.{AreFilled}
use Rattle.cluster_inspection.proofs.stranded.closed_questions.Given as goal

-- of the slots before those that are closed are asked for
abbrev pub invariant-loop-number : goal.invariant-loop-number
invariant-loop-number l =
    ((phases : ServerPhases) → ShowsPhases l.survey phases
    → AreFilled (λ s. closed_owner (phases s)) l.number (asked_owner l.questions)) × (l.questions.whom ≡ Others)
