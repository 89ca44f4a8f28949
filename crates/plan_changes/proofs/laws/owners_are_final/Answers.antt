use Rattle.plan_changes.proofs.Telling.{are_final}
use Rattle.plan_changes.proofs.laws.owners_are_final.Goals as goal

pub returns : goal.returns
returns c = are_final
