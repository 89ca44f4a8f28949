use Rattle.std.proofs.Common.{◌≡◌, ◌++◌, take}
use Rattle.std.specs.List.{flat_map}
use Rattle.cluster_reports.specs.NodeLines.{word_of}
use Rattle.cluster_reports.proofs.node_lines.put_ranges.Given as goal

-- the words of the ranges before
abbrev pub invariant-loop-range : goal.invariant-loop-range
invariant-loop-range l = l.out.items ≡ l.fn.out.items ++ flat_map (word_of l.node) (take l.range-index l.ranges)
