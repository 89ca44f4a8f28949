use Rattle.std.proofs.Common.{◌≡◌, ◌≤◌, ◌+◌, ◌*◌, ◌++◌, length}
use Rattle.plan_pages.specs.Runs.{more_runs}
use Rattle.plan_pages.proofs.runs.put_others.Given as goal

-- what is put, with the runs that follow, is the whole
abbrev pub invariant-loop-left : goal.invariant-loop-left
invariant-loop-left l = record {
  text : l.initial.out.items ++ more_runs l.initial.room l.runs ≡ l.out.items ++ more_runs l.room l.left;
  few : length l.out.items + 50 * length l.left ≤ length l.initial.out.items + 50 * length l.runs;
}

abbrev pub decreases-loop-left : goal.decreases-loop-left
decreases-loop-left l = length l.left
