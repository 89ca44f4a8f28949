use Rattle.std.proofs.Common.{◌≡◌, ◌+◌, length}
use Rattle.server_settling.specs.Keys.{at_one_alone}
use Rattle.server_settling.proofs.sorted_keys.SortedKeys.count_without.Given as goal

-- what was counted, and what is to be counted among those that are left
abbrev pub invariant-loop-rest : goal.invariant-loop-rest
invariant-loop-rest l =
    length (at_one_alone l.self l.others) ≡ l.count + length (at_one_alone l.rest l.others)

abbrev pub decreases-loop-rest : goal.decreases-loop-rest
decreases-loop-rest l = length l.rest
