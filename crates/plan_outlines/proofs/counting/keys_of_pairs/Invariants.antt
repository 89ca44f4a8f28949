use Rattle.std.proofs.Common.{◌*◌, drop}
use Rattle.plan_outlines.specs.Pairs.{keys_from, pair_keys}
use Rattle.plan_outlines.proofs.PairTallies.{at_pair}
use Rattle.plan_outlines.proofs.Tallies.{Tallied}
use Rattle.plan_outlines.proofs.counting.keys_of_pairs.Given as goal

abbrev pub invariant-loop-slot : goal.invariant-loop-slot
invariant-loop-slot l =
    Tallied l.counts.items (l.nodes * l.nodes) (at_pair l.nodes (keys_from l.slot l.keys (drop l.slot l.before) (drop l.slot l.after))) (at_pair l.nodes (pair_keys l.keys l.before l.after))
