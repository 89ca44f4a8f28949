use Rattle.std.proofs.Common.{◌≡◌, ◌≤◌, ◌+◌, ◌*◌, ◌++◌, length, take}
use Rattle.std.specs.List.{flat_map}
use Rattle.plan_pages.specs.Moves.{move_part}
use Rattle.plan_pages.proofs.moves.put_lines.Given as goal

-- the lines of those before
abbrev pub invariant-loop-range : goal.invariant-loop-range
invariant-loop-range l = record {
  text : l.out.items ≡ l.initial.out.items ++ flat_map move_part (take l.range-index l.ranges);
  few : length l.out.items ≤ length l.initial.out.items + 150 * l.range-index;
}
