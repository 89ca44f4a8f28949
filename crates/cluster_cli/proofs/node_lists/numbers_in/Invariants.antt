use Rattle.std.proofs.Common.{◌≡◌, ◌≤◌, drop, map}
use Rattle.std.specs.List.{All}
use Rattle.byte_texts.specs.Decimals.{number_in}
use Rattle.cluster_cli.specs.NodeLists.{all_read}
use Rattle.cluster_cli.proofs.Listing.{goes_on}
use Rattle.cluster_cli.proofs.node_lists.numbers_in.Given as goal

abbrev pub invariant-loop-word : goal.invariant-loop-word
invariant-loop-word l = record {
  read : goes_on l.found.items (all_read (number_in 0 1000) (map (λ w. w.now) (drop l.word-index l.words))) ≡ all_read (number_in 0 1000) (map (λ w. w.now) l.words);
  light : All (λ w. w ≤ 1000) l.found.items;
}
