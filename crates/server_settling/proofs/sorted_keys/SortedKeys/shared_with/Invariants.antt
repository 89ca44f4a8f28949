use Rattle.std.proofs.Common.{◌≡◌, ◌++◌, length}
use Rattle.server_settling.specs.Keys.{at_both}
use Rattle.server_settling.proofs.sorted_keys.SortedKeys.shared_with.Given as goal

-- what was found, and then what is to be found among those that are left
abbrev pub invariant-loop-rest : goal.invariant-loop-rest
invariant-loop-rest l = at_both l.self l.others ≡ l.found ++ at_both l.rest l.others

abbrev pub decreases-loop-rest : goal.decreases-loop-rest
decreases-loop-rest l = length l.rest
