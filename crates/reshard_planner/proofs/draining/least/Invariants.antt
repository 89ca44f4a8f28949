use Rattle.std.proofs.Common.{◌≡◌, drop, slice_index}
use Rattle.reshard_planner.specs.Draining.{least}
use Rattle.reshard_planner.proofs.draining.least.Given as goal

abbrev pub invariant-loop-other : goal.invariant-loop-other
invariant-loop-other l = least (λ node. slice_index l.quotas node) l.least (drop l.other-index l.others)
    ≡ least (λ node. slice_index l.quotas node) l.fn.target l.others
