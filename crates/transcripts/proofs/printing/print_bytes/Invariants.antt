use Rattle.std.proofs.Common.{◌≡◌, ◌++◌, take}
use Rattle.transcripts.specs.Printing.{shown_bytes}
use Rattle.transcripts.proofs.printing.print_bytes.Given as goal

abbrev pub invariant-loop-byte : goal.invariant-loop-byte
invariant-loop-byte l = l.printed.items ≡ l.initial.printed.items ++ shown_bytes (take l.byte-index l.bytes)
