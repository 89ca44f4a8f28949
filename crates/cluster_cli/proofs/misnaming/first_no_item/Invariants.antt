use Rattle.std.proofs.Common.{◌≡◌, drop, map}
use Rattle.cluster_cli.specs.Misnaming.{first_no_item}
use Rattle.cluster_cli.proofs.misnaming.first_no_item.Given as goal

abbrev pub invariant-loop-item : goal.invariant-loop-item
invariant-loop-item l =
    first_no_item l.nodes (map (λ w. w.now) (drop l.item-index l.items)) ≡ first_no_item l.nodes (map (λ w. w.now) l.items)
