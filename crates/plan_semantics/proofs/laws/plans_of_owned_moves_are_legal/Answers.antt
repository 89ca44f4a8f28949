use Rattle.plan_semantics.proofs.OwnedMoves.{owned_moves_are_legal}
use Rattle.plan_semantics.proofs.laws.plans_of_owned_moves_are_legal.Goals as goal

pub returns : goal.returns
returns c = owned_moves_are_legal
