use Rattle.std.proofs.Common.{◌≡◌, ◌≤◌, ◌+◌}
use Rattle.server_phases.specs.Resumed.{AreStill}
use Rattle.server_phases.proofs.resuming.end_of_run.Given as goal

-- the slots before are still at the source
abbrev pub invariant-loop-number : goal.invariant-loop-number
invariant-loop-number l = record {
  next : l.end + 1 ≡ l.number;
  least : l.fn.first ≤ l.end;
  still : AreStill l.survey l.source l.fn.first l.end;
}
