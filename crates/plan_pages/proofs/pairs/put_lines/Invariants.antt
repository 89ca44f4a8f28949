use Rattle.std.proofs.Common.{◌≡◌, ◌≤◌, ◌+◌, ◌*◌, ◌++◌, length, take}
use Rattle.std.specs.List.{flat_map}
use Rattle.plan_pages.specs.Pairs.{pair_line}
use Rattle.plan_pages.proofs.pairs.put_lines.Given as goal

-- the lines of those before
abbrev pub invariant-loop-pair : goal.invariant-loop-pair
invariant-loop-pair l = record {
  text : l.out.items ≡ l.initial.out.items ++ flat_map (pair_line l.has_keys) (take l.pair-index l.pairs);
  few : length l.out.items ≤ length l.initial.out.items + 140 * l.pair-index;
}
