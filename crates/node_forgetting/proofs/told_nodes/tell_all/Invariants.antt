use Rattle.std.proofs.Common.{◌≤◌}
use Rattle.node_forgetting.specs.Telling.{AreTold, asking_of}
use Rattle.node_forgetting.proofs.told_nodes.tell_all.Given as goal

-- so many are told, and the lines of the others are put
abbrev pub invariant-loop-place : goal.invariant-loop-place
invariant-loop-place g l = record {
  are : AreTold
      (asking_of g.D.Reach.reaches g.D.Reach.refuses
      (record { gave = g.D.Input.ByteIn.gave; took = g.D.Output.ByteOut.took }) l.credentials g.T.Countdown.over)
      l.credentials l.leaving.server.now.name l.servers l.place l.told l.out.items;
  few : l.told ≤ l.place;
}
