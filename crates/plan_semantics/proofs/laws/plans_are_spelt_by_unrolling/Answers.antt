use Rattle.plan_semantics.proofs.Unrolling.{spelled_by_prefixes}
use Rattle.plan_semantics.proofs.laws.plans_are_spelt_by_unrolling.Goals as goal

pub returns : goal.returns
returns c = spelled_by_prefixes
