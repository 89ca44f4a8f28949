use Rattle.std.proofs.Common.{◌≡◌, ◌++◌, length}
use Rattle.server_commands.specs.Telling.{hide}
use Rattle.server_commands.proofs.telling.hidden_each.Given as goal

-- what was found, and then what is left
abbrev pub invariant-loop-rest : goal.invariant-loop-rest
invariant-loop-rest l = l.found.items ++ hide l.password 0 l.rest ≡ hide l.password 0 l.text

abbrev pub decreases-loop-rest : goal.decreases-loop-rest
decreases-loop-rest l = length l.rest
