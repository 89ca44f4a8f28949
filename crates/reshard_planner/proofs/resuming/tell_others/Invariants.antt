use Rattle.std.proofs.Common.{◌≡◌, ◌+◌, ◌≤◌, ◌++◌}
use Rattle.plan_language.specs.Lines.{others}
use Rattle.plan_language.specs.MovesLeft.{others_from}
use Rattle.plan_semantics.specs.Plans.{tell}
use Rattle.reshard_planner.specs.Resuming.{lines_for, room, width}
use Rattle.reshard_planner.proofs.resuming.tell_others.Given as goal

-- the lines so far, and those of the nodes that are left
abbrev pub invariant-loop-number : goal.invariant-loop-number
invariant-loop-number l = record {
  version : l.plan.version ≡ l.fn.plan.version;
  names : l.plan.names ≡ l.fn.plan.names;
  width : width l.plan ≡ width l.fn.plan;
  few : room l.fn.plan ≤ room l.plan + l.number;
  lines : l.plan.lines ++ lines_for (tell l.slot l.target (others_from l.nodes l.source l.target l.number))
      ≡ l.fn.plan.lines ++ lines_for (tell l.slot l.target (others l.nodes l.source l.target));
}
