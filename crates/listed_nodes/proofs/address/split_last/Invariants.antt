use Rattle.std.proofs.Common.{◌≡◌, ◌≤◌, length, drop, None}
use Rattle.listed_nodes.specs.Addresses.{split_last}
use Rattle.listed_nodes.proofs.address.split_last.Given as goal

-- no such byte stands from here on
abbrev pub invariant-loop-at : goal.invariant-loop-at
invariant-loop-at l = (l.at ≤ length l.text) × (split_last l.byte (drop l.at l.text) ≡ None)

abbrev pub decreases-loop-at : goal.decreases-loop-at
decreases-loop-at l = l.at
