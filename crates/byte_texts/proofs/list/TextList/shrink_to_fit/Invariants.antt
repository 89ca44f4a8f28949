use Rattle.std.proofs.Common.{◌≡◌}
use Rattle.byte_texts.proofs.list.TextList.shrink_to_fit.Given as goal

abbrev pub invariant-loop-text : goal.invariant-loop-text
invariant-loop-text l = l.text-items ≡ l.initial.text-items
