use Rattle.std.proofs.Common.{◌≤◌, length}
use Rattle.edge_tests.specs.Turns.{Fits}
use Rattle.edge_tests.proofs.moving_slots.Moving.take_turns.Given as goal

abbrev pub invariant-loop : goal.invariant-loop
invariant-loop g l = record {
  fits : Fits l.taken l.self.world;
  known : l.self.client.owners.nodes ≤ length l.self.world.nodes;
}
