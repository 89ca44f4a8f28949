use Rattle.std.proofs.Common.{◌≡◌, ◌≤◌, ◌+◌, ◌*◌, ◌++◌, length, take}
use Rattle.std.specs.List.{flat_map}
use Rattle.plan_drawings.specs.Words.{told_pair}
use Rattle.plan_drawings.proofs.words.put_told_pairs.Given as goal

abbrev pub invariant-loop-pair : goal.invariant-loop-pair
invariant-loop-pair l = record {
  text : l.out.items ≡ l.initial.out.items ++ flat_map told_pair (take l.pair-index l.pairs);
  few : length l.out.items ≤ length l.initial.out.items + 50 * l.pair-index;
}
