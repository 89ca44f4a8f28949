use Rattle.std.proofs.Common.{◌≡◌, ◌++◌, length}
use Rattle.client_commands.specs.Spelling.{alternating}
use Rattle.client_commands.proofs.spelling.push_alternating.Given as goal

abbrev pub decreases-loop-keys_left : goal.decreases-loop-keys_left
decreases-loop-keys_left l = length l.keys_left

-- what is done, with what is still to come, is the whole
abbrev pub invariant-loop-keys_left : goal.invariant-loop-keys_left
invariant-loop-keys_left l =
    (l.words ++ alternating l.keys_left l.values_left ≡ l.initial.words ++ alternating l.keys l.values)
    × (length l.values_left ≡ length l.keys_left)
