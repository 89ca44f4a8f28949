use Rattle.std.proofs.Common.{◌≡◌, ℕ, List, slice_index}
use Rattle.reshard_planner.specs.Starts.{AreSlotsOf}
use Rattle.reshard_planner.specs.Transfers.{slots_given}
use Rattle.reshard_planner.proofs.giving.slots_given.Given as goal

abbrev pub invariant-loop-node : goal.invariant-loop-node
invariant-loop-node l = (owners : List ℕ) → AreSlotsOf l.nodes owners l.lists
    → l.slots_given.items ≡ slots_given owners (λ node. slice_index l.gives node) l.node
