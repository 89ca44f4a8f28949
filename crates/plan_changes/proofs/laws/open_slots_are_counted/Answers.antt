use Rattle.plan_changes.proofs.OpenCounted.{open_are_counted}
use Rattle.plan_changes.proofs.laws.open_slots_are_counted.Goals as goal

pub returns : goal.returns
returns c = open_are_counted
