use Rattle.std.proofs.Common.{◌≡◌, ◌++◌, take}
use Rattle.transcripts.proofs.printing.print_plain.Given as goal

abbrev pub invariant-loop-byte : goal.invariant-loop-byte
invariant-loop-byte l = l.printed.items ≡ l.initial.printed.items ++ take l.byte-index l.plain
