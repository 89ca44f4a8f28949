use Rattle.std.proofs.Common.{◌≡◌, ◌≤◌, ◌+◌, ◌++◌, length}
use Rattle.plan_pages.specs.Words.{spaces}
use Rattle.plan_pages.proofs.putting.put_spaces.Given as goal

-- the spaces so far
abbrev pub invariant-loop-done : goal.invariant-loop-done
invariant-loop-done l = record {
  text : l.out.items ≡ l.initial.out.items ++ spaces l._done;
  few : length l.out.items ≤ length l.initial.out.items + l._done;
}
