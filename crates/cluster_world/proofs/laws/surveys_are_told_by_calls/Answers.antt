use Rattle.cluster_world.proofs.SurveyedCalls.{surveys_are_told}
use Rattle.cluster_world.proofs.laws.surveys_are_told_by_calls.Goals as goal

pub returns : goal.returns
returns c = surveys_are_told
