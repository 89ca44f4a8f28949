use Rattle.reshard_theorem.proofs.Landed.{quiet_reshard}
use Rattle.reshard_theorem.proofs.laws.quiet_plans_move_their_slots.Goals as goal

pub returns : goal.returns
returns c = quiet_reshard
