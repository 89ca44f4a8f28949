use Rattle.std.proofs.Common.{◌≡◌}
use Rattle.std.specs.List.{flat_map, range_with_len}
use Rattle.plan_outlines.specs.Pairs.{moving_from, pair_in}
use Rattle.plan_outlines.proofs.changed_pairs.moving_pairs.Given as goal

abbrev pub invariant-loop-source : goal.invariant-loop-source
invariant-loop-source l =
    l.pairs.items ≡ flat_map (λ s. moving_from (pair_in l.nodes l.slots l.keys s) l.nodes) (range_with_len 0 l.source)
