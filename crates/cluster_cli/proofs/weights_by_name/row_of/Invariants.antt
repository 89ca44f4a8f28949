use Rattle.std.proofs.Common.{◌≡◌, ◌≤◌, drop, length, map}
use Rattle.std.specs.Prelude.{IfSome, None, replicate}
use Rattle.std.specs.List.{All}
use Rattle.cluster_cli.specs.WeightsByName.{row_of}
use Rattle.cluster_cli.proofs.weights_by_name.row_of.Given as goal

abbrev pub invariant-loop-item : goal.invariant-loop-item
invariant-loop-item l = record {
  row : row_of l.nodes l.row.items (map (λ w. w.now) (drop l.item-index l.items)) ≡ row_of l.nodes (replicate l.nodes None) (map (λ w. w.now) l.items);
  one_each : length l.row.items ≡ l.nodes;
  light : All (λ w. IfSome w (λ x. x ≤ 1000)) l.row.items;
}
