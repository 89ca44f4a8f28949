use Rattle.std.proofs.Common.{◌≡◌, ◌≤◌, ◌+◌, ◌*◌, ◌++◌, length, take}
use Rattle.std.specs.List.{flat_map}
use Rattle.plan_drawings.specs.Legends.{pair_line}
use Rattle.plan_drawings.proofs.legends.put_pair_lines.Given as goal

abbrev pub invariant-loop-pair : goal.invariant-loop-pair
invariant-loop-pair l = record {
  text : l.out.items ≡ l.initial.out.items ++ flat_map pair_line (take l.pair-index l.pairs);
  few : length l.out.items ≤ length l.initial.out.items + 150 * l.pair-index;
}
