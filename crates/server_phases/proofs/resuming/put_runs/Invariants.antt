use Rattle.std.proofs.Common.{◌≡◌, ◌+◌, ◌-◌, ◌≤◌, ℕ}
use Rattle.cluster_admin.specs.Phases.{Phases}
use Rattle.plan_semantics.specs.Surveyed.{Shows}
use Rattle.server_phases.specs.Resumed.{AddsMoves, plan_count, still}
use Rattle.server_phases.proofs.resuming.put_runs.Given as goal

-- the slots before were moved
abbrev pub invariant-loop-next : goal.invariant-loop-next
invariant-loop-next l = record {
  least : l.fn.first ≤ l.next;
  most : l.next ≤ l.last + 1;
  version : l.plan.version ≡ 3;
  names : l.plan.names ≡ l.fn.plan.names;
  total : l.total ≡ plan_count l.plan.names l.plan.lines;
  few : l.total ≤ 4227072;
  adds : (n : ℕ) (phases : Phases) → Shows l.survey phases → AddsMoves n l.fn.plan l.plan
      (still phases l.fn.first (l.next - l.fn.first) l.ends.source l.ends.target l.ends.batch);
}

abbrev pub decreases-loop-next : goal.decreases-loop-next
decreases-loop-next l = l.last + 1 - l.next
