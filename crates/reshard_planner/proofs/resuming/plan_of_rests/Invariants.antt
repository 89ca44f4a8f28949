use Rattle.std.proofs.Common.{◌≡◌, ◌≤◌, ◌*◌, ◌-◌}
use Rattle.cluster_admin.specs.Phases.{Phases}
use Rattle.plan_semantics.specs.Surveyed.{Shows, node_count}
use Rattle.reshard_planner.specs.Blank.{names_for}
use Rattle.reshard_planner.specs.Resuming.{rests_below, room}
use Rattle.reshard_planner.proofs.Rests.{most_rest}
use Rattle.reshard_planner.proofs.resuming.plan_of_rests.Given as goal

-- the rests of the slots below this one
abbrev pub invariant-loop-number : goal.invariant-loop-number
invariant-loop-number l = record {
  version : l.plan.version ≡ 3;
  names : l.plan.names ≡ names_for (node_count l.survey);
  few : most_rest (node_count l.survey) * (16384 - l.number) ≤ room l.plan;
  lines : (phases : Phases) → Shows l.survey phases
      → l.plan.lines ≡ rests_below (node_count l.survey) l.batch phases l.number;
}
