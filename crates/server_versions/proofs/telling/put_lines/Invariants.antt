use Rattle.std.proofs.Common.{◌≡◌, ◌+◌, ◌++◌, length}
use Rattle.server_versions.specs.Telling.{lines_from}
use Rattle.server_versions.proofs.telling.put_lines.Given as goal

-- the lines of those before this one, and the numbers that are left
abbrev pub invariant-loop-left : goal.invariant-loop-left
invariant-loop-left l = record {
  count : l.number + length l.left ≡ length l.versions;
  lines : l.out.items ++ lines_from l.number l.left ≡ l.fn.out.items ++ lines_from 0 l.versions;
}

abbrev pub decreases-loop-left : goal.decreases-loop-left
decreases-loop-left l = length l.left
