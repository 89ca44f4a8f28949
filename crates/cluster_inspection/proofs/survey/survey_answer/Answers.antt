use Rattle.cluster_inspection.proofs.Lines.{details_said}
use Rattle.cluster_inspection.proofs.survey.survey_answer.Goals as goal

pub returns-clause-says : goal.returns-clause-says
returns-clause-says g c =
    details_said _ _ c.details_of-details.result _ c.text_of.result c.details_of-details.ensures c.text_of.ensures.says
