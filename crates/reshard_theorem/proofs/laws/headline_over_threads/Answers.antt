use Rattle.reshard_theorem.proofs.Threads.{headline_over_threads, headline_of_one_plan}
use Rattle.reshard_theorem.proofs.laws.headline_over_threads.Goals as goal

pub returns-clause-plans : goal.returns-clause-plans
returns-clause-plans c = headline_over_threads

pub returns-clause-one : goal.returns-clause-one
returns-clause-one c = headline_of_one_plan
