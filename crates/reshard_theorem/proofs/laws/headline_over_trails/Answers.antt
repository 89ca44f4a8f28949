use Rattle.reshard_theorem.proofs.SurveyedStages.{headline_over_trails, openings_are_surveyed}
use Rattle.reshard_theorem.proofs.laws.headline_over_trails.Goals as goal

pub returns-clause-trails : goal.returns-clause-trails
returns-clause-trails c = headline_over_trails

pub returns-clause-opening : goal.returns-clause-opening
returns-clause-opening c = openings_are_surveyed
