use Rattle.std.proofs.Common.{◌≡◌, ◌≤◌}
use Rattle.cluster_reports.specs.StateLines.{owners_below}
use Rattle.cluster_reports.proofs.state_lines.owners_of.Given as goal

-- how many of the nodes before own a slot
abbrev pub invariant-loop-number : goal.invariant-loop-number
invariant-loop-number l = record {
  count : l.count ≡ owners_below l.table.owners l.number;
  few : l.count ≤ l.number;
}
