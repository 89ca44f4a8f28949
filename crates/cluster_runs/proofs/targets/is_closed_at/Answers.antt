use Rattle.std.proofs.Common.{◌∙◌}
use Rattle.std.proofs.lemmas.Bool.{eq-eqb}
use Rattle.cluster_runs.proofs.Closed.{closed_by, not_closed}
use Rattle.cluster_runs.proofs.targets.is_closed_at.Goals as goal

pub returns-in-Closed : goal.returns-in-Closed
returns-in-Closed c h =
    c.eq.ensures ∙ eq-eqb c.in-Closed.owner c.args.node
    (closed_by c.args.survey.now c.args.slot c.args.node c.in-Closed.owner c.phase_at.result c.in-Closed.is
    c.phase_at.ensures.only h)

pub returns-in_default : goal.returns-in_default
returns-in_default c h =
    absurd (not_closed c.args.survey.now c.args.slot c.args.node c.phase_at.result c.in_default.not-Closed
    c.phase_at.ensures.only h)
