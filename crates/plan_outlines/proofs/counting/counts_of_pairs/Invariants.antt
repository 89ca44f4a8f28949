use Rattle.std.proofs.Common.{◌*◌, drop}
use Rattle.plan_outlines.specs.Pairs.{pair_slots}
use Rattle.plan_outlines.proofs.PairTallies.{at_pair}
use Rattle.plan_outlines.proofs.Tallies.{Tallied}
use Rattle.plan_outlines.proofs.counting.counts_of_pairs.Given as goal

abbrev pub invariant-loop-slot : goal.invariant-loop-slot
invariant-loop-slot l =
    Tallied l.counts.items (l.nodes * l.nodes) (at_pair l.nodes (pair_slots (drop l.slot l.before) (drop l.slot l.after))) (at_pair l.nodes (pair_slots l.before l.after))
