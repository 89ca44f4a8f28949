use Rattle.std.proofs.Common.{◌≡◌, ◌≤◌, ◌+◌, ◌*◌, ◌++◌, length, take}
use Rattle.std.specs.List.{flat_map}
use Rattle.plan_drawings.specs.Now.{now_bar}
use Rattle.plan_drawings.proofs.now_drawings.put_now_bars.Given as goal

abbrev pub invariant-loop-range : goal.invariant-loop-range
invariant-loop-range l = record {
  text : l.out.items ≡ l.initial.out.items ++ flat_map now_bar (take l.range-index l.ranges);
  few : length l.out.items ≤ length l.initial.out.items + 280 * l.range-index;
}
