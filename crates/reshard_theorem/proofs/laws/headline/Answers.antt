use Rattle.reshard_theorem.proofs.Landed.{headline_holds, moments_are_runs}
use Rattle.reshard_theorem.proofs.laws.headline.Goals as goal

pub returns-clause-holds : goal.returns-clause-holds
returns-clause-holds c = headline_holds

pub returns-clause-moments : goal.returns-clause-moments
returns-clause-moments c = moments_are_runs
