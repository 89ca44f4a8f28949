use Rattle.std.proofs.Common.{◌≡◌, ◌≤◌, ◌+◌, ◌*◌, map, take}
use Rattle.std.specs.List.{flat_map}
use Rattle.serde_json.specs.View.{view}
use Rattle.plan_json.specs.Sizes.{items_size}
use Rattle.plan_json.specs.Values.{move_items}
use Rattle.plan_json.proofs.slot_values.move_values.Given as goal

-- the objects of those before
abbrev pub invariant-loop-range : goal.invariant-loop-range
invariant-loop-range l = record {
  told : map view l.values.items ≡ flat_map move_items (take l.range-index l.ranges);
  few : items_size (map view l.values.items) ≤ 1 + 240 * l.range-index;
}
