use Rattle.reshard_theorem.proofs.Driven.{driven_step_by_step}
use Rattle.plan_semantics.proofs.Unrolling.{spelled_by_prefixes}
use Rattle.reshard_theorem.proofs.laws.driven_step_by_step.Goals as goal

pub returns-clause-driven : goal.returns-clause-driven
returns-clause-driven c = driven_step_by_step

pub returns-clause-spelled : goal.returns-clause-spelled
returns-clause-spelled c = spelled_by_prefixes
