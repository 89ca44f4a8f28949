use Rattle.plan_changes.proofs.Bounded.{have_bounds}
use Rattle.plan_changes.proofs.laws.batches_have_bounds.Goals as goal

pub returns : goal.returns
returns c = have_bounds
