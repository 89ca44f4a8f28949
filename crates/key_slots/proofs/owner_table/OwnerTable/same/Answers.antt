use Rattle.key_slots.proofs.Row.{rows_same}
use Rattle.key_slots.proofs.owner_table.OwnerTable.same.Goals as goal

pub returns-then-self-other : goal.returns-then-self-other
returns-then-self-other c =
    rw (← c.self.view_is, ← c.other.view_is)
    (rows_same c.self.inside.nodes c.other.inside.nodes c.self.inside.starts.items c.other.inside.starts.items c.eq.result c.self.invariant.0 c.other.invariant.0 c.if-self-other.true c.eq.ensures)
