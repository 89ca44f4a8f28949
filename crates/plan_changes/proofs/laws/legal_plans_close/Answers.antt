use Rattle.plan_changes.proofs.PhasesBehind.{legal_plans_close}
use Rattle.plan_changes.proofs.laws.legal_plans_close.Goals as goal

pub returns : goal.returns
returns c = legal_plans_close
