use Rattle.std.proofs.Common.{◌∙◌, arith}
use Rattle.live_cluster.proofs.Fresh.{fresh_next}
use Rattle.live_cluster.proofs.free_seats.FreeSeats.next.Goals as goal

pub invariant_of-self : goal.invariant_of-self
invariant_of-self g c = (c.remove.ensures.items ∙ fresh_next c.self.inside.given 0 c.self.inside.seats.items c.self.invariant.0 c.self.invariant.1 c.if-self-eq32.false, omega arith)
