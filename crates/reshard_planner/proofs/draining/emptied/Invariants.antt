use Rattle.std.proofs.Common.{◌≡◌, ℕ, ◌<◌, cond, drop, length, slice_index}
use Rattle.plan_semantics.specs.Plans.{among}
use Rattle.reshard_planner.proofs.draining.emptied.Given as goal

abbrev pub invariant-loop-source : goal.invariant-loop-source
invariant-loop-source l = ((node : ℕ) → node < 255
    → cond (among node (drop l.source-index l.sources)) 0 (slice_index l.emptied node)
    ≡ cond (among node l.sources) 0 (slice_index l.held node)) × (length l.emptied ≡ 255)
