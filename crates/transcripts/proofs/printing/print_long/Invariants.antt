use Rattle.std.proofs.Common.{◌≡◌, ◌≤◌, ◌++◌, length}
use Rattle.transcripts.specs.Printing.{shown_bytes}
use Rattle.transcripts.proofs.printing.print_long.Given as goal

abbrev pub invariant-loop-left : goal.invariant-loop-left
invariant-loop-left l = record {
  short : length l.left ≤ length l.bytes;
  printed : l.printed.items ++ shown_bytes l.left ≡ l.fn.printed.items ++ shown_bytes l.bytes;
}

abbrev pub decreases-loop-left : goal.decreases-loop-left
decreases-loop-left l = length l.left
