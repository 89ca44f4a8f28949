use Rattle.std.proofs.Common.{◌≡◌, ◌<◌}
use Rattle.std.specs.List.{All}
use Rattle.cluster_cli.specs.DrainedNodes.{all_but}
use Rattle.cluster_cli.proofs.drained_nodes.all_but.Given as goal

abbrev pub invariant-loop-number : goal.invariant-loop-number
invariant-loop-number l = record {
  found : l.found.items ≡ all_but l.number l.sources;
  exist : All (λ s. s < l.nodes) l.found.items;
}
