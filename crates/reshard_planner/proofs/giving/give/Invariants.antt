use Rattle.std.proofs.Common.{◌≡◌, ◌++◌, map, take}
use Rattle.reshard_planner.proofs.giving.give.Given as goal

abbrev pub invariant-loop-slot : goal.invariant-loop-slot
invariant-loop-slot l = l.slots_given.items ≡ l.initial.slots_given.items ++ map (λ s. (s, l.node)) (take l.slot-index l.slots)
