use Rattle.std.proofs.Common.{◌≡◌, take}
use Rattle.typed_values.proofs.pairs.PairList.try_copy.Given as goal

abbrev pub invariant-loop-pair : goal.invariant-loop-pair
invariant-loop-pair l = l.copies.items ≡ take l.pair-index l.pair-items
