use Rattle.key_slots.specs.Starts.{IsNotPast}
use Rattle.key_slots.proofs.start_row.starts_from.Given as goal

abbrev pub invariant-loop-place : goal.invariant-loop-place
invariant-loop-place l = IsNotPast l.number l.starts l.place
