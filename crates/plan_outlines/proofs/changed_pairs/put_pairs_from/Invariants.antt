use Rattle.std.proofs.Common.{◌≡◌, ◌++◌}
use Rattle.plan_outlines.specs.Pairs.{moving_from, pair_in}
use Rattle.plan_outlines.proofs.changed_pairs.put_pairs_from.Given as goal

abbrev pub invariant-loop-number : goal.invariant-loop-number
invariant-loop-number l =
    l.pairs.items ≡ l.initial.pairs.items ++ moving_from (pair_in l.nodes l.slots l.keys l.source) l.number
