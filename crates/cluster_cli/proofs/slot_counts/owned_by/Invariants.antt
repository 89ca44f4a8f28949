use Rattle.std.proofs.Common.{◌≡◌, ◌≤◌, take}
use Rattle.std.specs.Prelude.{count_by}
use Rattle.cluster_cli.specs.DrainedNodes.{is_one}
use Rattle.cluster_cli.proofs.slot_counts.owned_by.Given as goal

-- the slots below are counted
abbrev pub invariant-loop-number : goal.invariant-loop-number
invariant-loop-number l = record {
  counted : l.count ≡ count_by (is_one l.nodes) (take l.number l.owners.owners);
  few : l.count ≤ l.number;
}
