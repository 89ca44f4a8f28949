use Rattle.plan_changes.proofs.Telling.{legal_tells}
use Rattle.plan_changes.proofs.laws.legal_plans_tell_nodes.Goals as goal

pub returns : goal.returns
returns c = legal_tells
