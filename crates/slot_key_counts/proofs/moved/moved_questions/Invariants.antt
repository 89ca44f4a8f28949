use Rattle.std.proofs.Common.{◌≡◌, length}
use Rattle.cluster_admin.specs.Surveys.{owner_at}
use Rattle.plan_language.specs.Lines.{plan_commands}
use Rattle.slot_key_counts.specs.Moved.{with_all_moved}
use Rattle.slot_key_counts.specs.Questions.{asked_owner, no_owner}
use Rattle.slot_key_counts.specs.declared.questions.AskedNodes.TheVariants.{Owner}
use Rattle.slot_key_counts.proofs.moved.moved_questions.Given as goal

-- with what is left it is what all commands move
abbrev pub invariant-loop-command : goal.invariant-loop-command
invariant-loop-command l =
    (with_all_moved (owner_at l.survey 0) l.commands.left (asked_owner l.questions)
    ≡ with_all_moved (owner_at l.survey 0) (plan_commands (length l.survey.rows) l.fn.plan.lines) no_owner)
    × (l.questions.whom ≡ Owner)

abbrev pub decreases-loop-command : goal.decreases-loop-command
decreases-loop-command l = length l.commands.left
