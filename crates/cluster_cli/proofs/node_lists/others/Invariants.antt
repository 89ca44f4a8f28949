use Rattle.std.proofs.Common.{◌≡◌, ◌<◌}
use Rattle.std.specs.List.{All}
use Rattle.cluster_cli.specs.NodeLists.{others}
use Rattle.cluster_cli.proofs.node_lists.others.Given as goal

abbrev pub invariant-loop-number : goal.invariant-loop-number
invariant-loop-number l = record {
  found : l.found.items ≡ others l.number l.target;
  exist : All (λ s. s < l.nodes) l.found.items;
}
