use Rattle.std.proofs.Common.{◌≡◌, ◌≤◌, ◌+◌, ◌*◌, map, take}
use Rattle.serde_json.specs.View.{view}
use Rattle.plan_json.specs.Sizes.{items_size, longest}
use Rattle.plan_json.specs.Values.{node_change_data}
use Rattle.plan_json.proofs.node_values.node_values.Given as goal

-- the objects of those before
abbrev pub invariant-loop-change : goal.invariant-loop-change
invariant-loop-change l = record {
  told : map view l.values.items ≡ map (node_change_data l.servers) (take l.change-index l.nodes);
  few : items_size (map view l.values.items) ≤ 1 + l.change-index * (680 + longest l.servers);
}
