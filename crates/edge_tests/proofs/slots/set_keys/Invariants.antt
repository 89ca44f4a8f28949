use Rattle.std.proofs.Common.{◌≡◌, length}
use Rattle.edge_tests.proofs.slots.set_keys.Given as goal

-- there are as many nodes as at first
abbrev pub invariant-loop-number : goal.invariant-loop-number
invariant-loop-number l = length l.world.nodes ≡ length l.initial.world.nodes
