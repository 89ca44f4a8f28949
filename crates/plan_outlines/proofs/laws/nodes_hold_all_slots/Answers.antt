use Rattle.plan_outlines.proofs.Holding.{nodes_hold}
use Rattle.plan_outlines.proofs.laws.nodes_hold_all_slots.Goals as goal

pub returns : goal.returns
returns c = nodes_hold
