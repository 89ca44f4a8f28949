use Rattle.std.proofs.Common.{◌≡◌, ◌≤◌, ◌+◌, ◌*◌, ◌++◌, length, take}
use Rattle.std.specs.List.{flat_map}
use Rattle.plan_drawings.specs.Rows.{band}
use Rattle.plan_drawings.proofs.rows.put_empty_bands.Given as goal

abbrev pub invariant-loop-node : goal.invariant-loop-node
invariant-loop-node l = record {
  text : l.out.items ≡ l.initial.out.items ++ flat_map (band l.top) (take l.node-index l.nodes);
  few : length l.out.items ≤ length l.initial.out.items + 70 * l.node-index;
}
