use Rattle.std.proofs.Common.{◌≡◌, ◌+◌, ◌≤◌, ◌++◌}
use Rattle.plan_semantics.specs.Plans.{tell}
use Rattle.reshard_planner.specs.Resuming.{lines_for, room, width}
use Rattle.reshard_planner.proofs.Rests.{saying_from}
use Rattle.reshard_planner.proofs.resuming.tell_left.Given as goal

-- the lines so far, and those of the nodes that are left
abbrev pub invariant-loop-number : goal.invariant-loop-number
invariant-loop-number l = record {
  version : l.plan.version ≡ l.fn.plan.version;
  names : l.plan.names ≡ l.fn.plan.names;
  width : width l.plan ≡ width l.fn.plan;
  few : room l.fn.plan ≤ room l.plan + l.number;
  lines : l.plan.lines ++ lines_for (tell l.slot l.target (saying_from l.survey l.slot l.source l.number))
      ≡ l.fn.plan.lines ++ lines_for (tell l.slot l.target (saying_from l.survey l.slot l.source 0));
}
