use Rattle.std.proofs.Common.{◌≡◌, ◌++◌, drop}
use Rattle.key_slots.specs.Starts.{between}
use Rattle.key_slots.proofs.start_row.ranges_between.Given as goal

abbrev pub invariant-loop-place : goal.invariant-loop-place
invariant-loop-place l = l.ranges.items ++ between 16384 (drop l.place l.starts) ≡ between 16384 l.starts
