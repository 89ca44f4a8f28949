use Rattle.std.proofs.Common.{◌≡◌, ◌≤◌, ◌+◌, ◌*◌, map, take}
use Rattle.serde_json.specs.View.{view}
use Rattle.plan_json.specs.Sizes.{items_size}
use Rattle.plan_json.specs.Values.{run_data}
use Rattle.plan_json.proofs.slot_values.run_values.Given as goal

-- the objects of those before
abbrev pub invariant-loop-run : goal.invariant-loop-run
invariant-loop-run l = record {
  told : map view l.values.items ≡ map run_data (take l.run-index l.runs);
  few : items_size (map view l.values.items) ≤ 1 + 110 * l.run-index;
}
