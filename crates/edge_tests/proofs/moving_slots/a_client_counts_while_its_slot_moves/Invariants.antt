use Rattle.std.proofs.Common.{◌≤◌, length}
use Rattle.edge_tests.proofs.moving_slots.a_client_counts_while_its_slot_moves.Given as goal

abbrev pub invariant-loop-order : goal.invariant-loop-order
invariant-loop-order g l = l.moving.client.owners.nodes ≤ length l.moving.world.nodes
