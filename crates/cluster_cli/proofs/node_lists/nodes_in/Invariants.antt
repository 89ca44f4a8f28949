use Rattle.std.proofs.Common.{◌≡◌, ◌<◌, drop, map}
use Rattle.std.specs.List.{All}
use Rattle.cluster_cli.specs.NodeLists.{all_read, node_of}
use Rattle.cluster_cli.proofs.Listing.{goes_on}
use Rattle.cluster_cli.proofs.node_lists.nodes_in.Given as goal

abbrev pub invariant-loop-word : goal.invariant-loop-word
invariant-loop-word l = record {
  read : goes_on l.found.items (all_read (node_of l.nodes) (map (λ w. w.now) (drop l.word-index l.words))) ≡ all_read (node_of l.nodes) (map (λ w. w.now) l.words);
  exist : All (λ s. s < l.nodes) l.found.items;
}
