use Rattle.reshard_theorem.proofs.SurveyedStages.{server_headline_over_surveys, server_headline_over_calls, surveys_told}
use Rattle.reshard_theorem.proofs.server_laws.headline_over_surveys_at_servers.Goals as goal

pub returns-clause-stages : goal.returns-clause-stages
returns-clause-stages c = server_headline_over_surveys

pub returns-clause-calls : goal.returns-clause-calls
returns-clause-calls c = server_headline_over_calls

pub returns-clause-told : goal.returns-clause-told
returns-clause-told c = surveys_told
