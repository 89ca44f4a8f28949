use Rattle.std.proofs.Common.{◌∙◌, ap, arith, subst, sym}
use Rattle.slot_key_counts.specs.Questions.{asked_owner}
use Rattle.server_phases.specs.ServerPhases.{IsPhaseAt}
use Rattle.cluster_inspection.specs.Stranded.{closed_owner}
use Rattle.cluster_inspection.proofs.Filled.{next_filled, none_filled}
use Rattle.cluster_inspection.proofs.stranded.closed_questions.Goals as goal

pub loop-number-init : goal.loop-number-init
loop-number-init c = (
  (λ phases shows.
      none_filled (λ s. closed_owner (phases s)) (asked_owner c.in_ok-questions.questions) c.in_ok-questions.ensures.none),
  c.in_ok-questions.ensures.whom,
)

pub loop-number-preserved : goal.loop-number-preserved
loop-number-preserved c = (
  (λ phases shows.
      next_filled (λ s. closed_owner (phases s)) c.loop-number.number (asked_owner c.loop-number.questions)
      (asked_owner c.ask_closed.new.questions) c.of-slot.result (closed_owner c.phase_at.result) c.of-slot.ensures
      (ap closed_owner
      (sym (c.phase_at.ensures.only (phases c.loop-number.number)
      (subst (λ s. IsPhaseAt c.args.survey.now s (phases c.loop-number.number)) (sym c.of-slot.ensures)
      (shows c.loop-number.number (omega arith))))))
      c.ask_closed.ensures.asked (c.loop-number.invariant.0 phases shows)),
  c.ask_closed.ensures.whom ∙ c.loop-number.invariant.1,
)

pub returns-clause-asked : goal.returns-clause-asked
returns-clause-asked c = λ phases shows s less. (c.loop-number.invariant.0 phases shows).below s (omega (arith, less))
