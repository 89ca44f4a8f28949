use Rattle.std.proofs.Common.{◌≡◌}
use Rattle.typed_values.proofs.pairs.PairList.shrink_to_fit.Given as goal

abbrev pub invariant-loop-name : goal.invariant-loop-name
invariant-loop-name l = l.name-items ≡ l.initial.name-items
