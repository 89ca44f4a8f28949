use Rattle.std.proofs.Common.{◌++◌, ◌∙◌, ap, inr}
use Rattle.transcripts.specs.RunTexts.{unsurveyed_text}
use Rattle.cluster_inspection.proofs.no_cluster.unsurveyed.Goals as goal

pub returns-clause-unfound : goal.returns-clause-unfound
returns-clause-unfound c = (
  c.in_ok-report_unsurveyed.ensures.1,
  inr (
    c.args.reason.now,
    c.in_ok-report_unsurveyed.ensures.0 ∙ ap (λ t. t ++ unsurveyed_text c.args.reason.now) c.new-answer.ensures.printed,
  ),
)

pub returns-clause-told : goal.returns-clause-told
returns-clause-told c = (
  c.in_ok-report_unsurveyed.ensures.1,
  c.in_ok-report_unsurveyed.ensures.0 ∙ ap (λ t. t ++ unsurveyed_text c.args.reason.now) c.new-answer.ensures.printed,
)
