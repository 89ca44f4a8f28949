use Rattle.std.proofs.Common.{◌≡◌, ◌≤◌, not, take}
use Rattle.std.specs.List.{count_by}
use Rattle.transcripts.specs.Printing.{stands_for_itself}
use Rattle.transcripts.proofs.printing.escaped_count.Given as goal

abbrev pub invariant-loop-byte : goal.invariant-loop-byte
invariant-loop-byte l = record {
  within : l.count ≤ l.byte-index;
  counted : l.count ≡ count_by (λ b. not (stands_for_itself b)) (take l.byte-index l.bytes);
}
