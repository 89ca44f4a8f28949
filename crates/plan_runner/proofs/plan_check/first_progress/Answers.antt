use Rattle.std.proofs.Common.{rules, ◌∙◌}
use Rattle.cluster_admin.specs.Surveys.{phase_seen}
use Rattle.plan_runner.proofs.Surveyed.{same_progress, targets_within}
use Rattle.plan_runner.proofs.plan_check.first_progress.Goals as goal

pub unreachable-requires : goal.unreachable-requires
unreachable-requires g c = c.in-None.ensures.none (c.requires.seen c.args.slot).0 (c.requires.seen c.args.slot).1

pub first_targets-requires : goal.first_targets-requires
first_targets-requires g c = (search rules, ((λ v s. targets_within c.args.survey.now v c.args.slot s g.row.N c.in-Some.phase c.requires.nodes c.in-Some.ensures.phase), c.requires.most))

pub returns : goal.returns
returns g c p has =
    (λ i. record { state = c.first.ensures i; targets = c.first_targets.ensures c.args.survey.now c.args.slot i; last = 0 })
    ∙ same_progress c.args.survey.now c.args.slot (phase_seen c.args.survey.now c.args.slot c.in-Some.phase) p c.in-Some.ensures.phase has
