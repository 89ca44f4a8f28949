use Rattle.std.proofs.Common.{◌≡◌, ◌≤◌, ℕ, take}
use Rattle.cluster_admin.specs.Phases.{Phases}
use Rattle.plan_semantics.specs.Surveyed.{Shows}
use Rattle.server_phases.specs.Resumed.{AddsMoves, plan_count, still_left}
use Rattle.server_phases.proofs.resuming.put_lines.Given as goal

-- the lines before were put
abbrev pub invariant-loop-line : goal.invariant-loop-line
invariant-loop-line l = record {
  version : l.plan.version ≡ 3;
  names : l.plan.names ≡ l.fn.plan.names;
  total : l.total ≡ plan_count l.plan.names l.plan.lines;
  few : l.total ≤ 4227072;
  adds : (n : ℕ) (phases : Phases) → Shows l.survey phases
      → AddsMoves n l.fn.plan l.plan (still_left phases (take l.line-index l.fn.moves));
}
