use Rattle.reshard_theorem.proofs.SurveyedStages.{headline_over_surveys, headline_over_calls}
use Rattle.reshard_theorem.proofs.laws.headline_over_surveys.Goals as goal

pub returns-clause-stages : goal.returns-clause-stages
returns-clause-stages c = headline_over_surveys

pub returns-clause-calls : goal.returns-clause-calls
returns-clause-calls c = headline_over_calls
