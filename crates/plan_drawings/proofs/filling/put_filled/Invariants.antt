use Rattle.std.proofs.Common.{◌≡◌, ◌≤◌, ◌+◌, ◌*◌, ◌++◌, length}
use Rattle.plan_drawings.specs.Filling.{filled}
use Rattle.plan_drawings.proofs.filling.put_filled.Given as goal

-- what was put, and what is still to come, is the whole
abbrev pub invariant-loop-rest : goal.invariant-loop-rest
invariant-loop-rest l = record {
  text : l.fn.out.items ++ filled l.fn.template l.fn.numbers ≡ l.out.items ++ filled l.rest l.left;
  few : length l.out.items + (length l.rest + 10 * length l.left)
      ≤ length l.fn.out.items + (length l.fn.template + 10 * length l.fn.numbers);
}

abbrev pub decreases-loop-rest : goal.decreases-loop-rest
decreases-loop-rest l = length l.rest
