use Rattle.std.proofs.Common.{◌≡◌, ◌≤◌, ◌+◌, ◌*◌, map, take}
use Rattle.serde_json.specs.View.{view}
use Rattle.plan_json.specs.Sizes.{items_size}
use Rattle.plan_json.specs.Values.{pair_data}
use Rattle.plan_json.proofs.pair_values.pair_values.Given as goal

-- the objects of those before
abbrev pub invariant-loop-pair : goal.invariant-loop-pair
invariant-loop-pair l = record {
  told : map view l.values.items ≡ map (pair_data l.has_keys) (take l.pair-index l.pairs);
  few : items_size (map view l.values.items) ≤ 1 + 240 * l.pair-index;
}
