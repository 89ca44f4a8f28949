use Rattle.std.proofs.Common.{◌≡◌, ◌≤◌, ◌+◌, ◌*◌, ◌++◌, length, take}
use Rattle.std.specs.List.{flat_map}
use Rattle.plan_pages.specs.Nodes.{node_row}
use Rattle.plan_pages.proofs.nodes.put_rows.Given as goal

-- the lines of those before
abbrev pub invariant-loop-change : goal.invariant-loop-change
invariant-loop-change l = record {
  text : l.out.items ≡ l.initial.out.items ++ flat_map node_row (take l.change-index l.nodes);
  few : length l.out.items ≤ length l.initial.out.items + 240 * l.change-index;
}
