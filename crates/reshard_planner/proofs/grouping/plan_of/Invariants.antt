use Rattle.std.proofs.Common.{◌≡◌}
use Rattle.plan_language.specs.Limits.{limits_of}
use Rattle.reshard_planner.specs.Blank.{names_for}
use Rattle.reshard_planner.specs.Writing.{IsUnderway}
use Rattle.reshard_planner.proofs.grouping.plan_of.Given as goal

abbrev pub invariant-loop-transfer : goal.invariant-loop-transfer
invariant-loop-transfer l =
    (l.plan.version ≡ 1) × (l.plan.names ≡ names_for l.nodes)
    × IsUnderway l.batch (limits_of l.plan.names).nodes l.transfers l.transfer-index l.plan.lines l.range
