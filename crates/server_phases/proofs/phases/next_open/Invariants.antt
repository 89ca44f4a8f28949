use Rattle.std.proofs.Common.{◌≤◌}
use Rattle.server_phases.specs.ServerPhases.{AreClosedBetween}
use Rattle.server_phases.proofs.phases.next_open.Given as goal

-- the slots before are closed
abbrev pub invariant-loop-number : goal.invariant-loop-number
invariant-loop-number l = record {
  least : l.fn.from ≤ l.number;
  closed : AreClosedBetween l.survey l.fn.from l.number;
}
