use Rattle.std.proofs.Common.{◌≡◌, ◌≤◌, ◌+◌, ◌*◌, ◌++◌, length, take}
use Rattle.std.specs.List.{flat_map}
use Rattle.plan_drawings.specs.Rows.{lower_name}
use Rattle.plan_drawings.proofs.rows.put_each_lower_name.Given as goal

abbrev pub invariant-loop-node : goal.invariant-loop-node
invariant-loop-node l = record {
  text : l.out.items ≡ l.initial.out.items ++ flat_map (lower_name l.rows) (take l.node-index l.nodes);
  few : length l.out.items ≤ length l.initial.out.items + 140 * l.node-index;
}
