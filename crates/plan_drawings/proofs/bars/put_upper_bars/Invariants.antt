use Rattle.std.proofs.Common.{◌≡◌, ◌≤◌, ◌+◌, ◌*◌, ◌++◌, length, take}
use Rattle.std.specs.List.{flat_map}
use Rattle.plan_drawings.specs.Bars.{upper_bar}
use Rattle.plan_drawings.proofs.bars.put_upper_bars.Given as goal

abbrev pub invariant-loop-range : goal.invariant-loop-range
invariant-loop-range l = record {
  text : l.out.items ≡ l.initial.out.items ++ flat_map upper_bar (take l.range-index l.ranges);
  few : length l.out.items ≤ length l.initial.out.items + 290 * l.range-index;
}
