use Rattle.std.proofs.Common.{◌≡◌, ◌++◌, replicate}
use Rattle.transcripts.proofs.printing.print_spaces.Given as goal

abbrev pub invariant-loop : goal.invariant-loop
invariant-loop l = l.printed.items ≡ l.initial.printed.items ++ replicate l.counter 32
