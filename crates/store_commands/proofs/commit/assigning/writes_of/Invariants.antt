use Rattle.std.proofs.Common.{drop}
use Rattle.store_commands.proofs.Assigned.{AreWrites}
use Rattle.store_commands.proofs.commit.assigning.writes_of.Given as goal

abbrev pub invariant-loop-place : goal.invariant-loop-place
invariant-loop-place l = AreWrites l.writes.items l.seen (drop l.place l.keys) (drop l.place l.values)
