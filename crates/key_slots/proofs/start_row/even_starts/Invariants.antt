use Rattle.std.proofs.Common.{◌≤◌, vec_capacity}
use Rattle.key_slots.proofs.Row.{EvenRow}
use Rattle.key_slots.proofs.start_row.even_starts.Given as goal

abbrev pub invariant-loop-number : goal.invariant-loop-number
invariant-loop-number l = EvenRow l.owning l.number l.starts.items × (16384 ≤ vec_capacity l.starts)
