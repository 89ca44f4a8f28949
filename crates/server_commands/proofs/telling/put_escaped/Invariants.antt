use Rattle.std.proofs.Common.{◌≡◌, ◌++◌, length}
use Rattle.server_commands.specs.Telling.{escaped}
use Rattle.server_commands.proofs.telling.put_escaped.Given as goal

-- what was put, and then what is left
abbrev pub invariant-loop-rest : goal.invariant-loop-rest
invariant-loop-rest l = l.out.items ++ escaped l.rest ≡ l.initial.out.items ++ escaped l.text

abbrev pub decreases-loop-rest : goal.decreases-loop-rest
decreases-loop-rest l = length l.rest
