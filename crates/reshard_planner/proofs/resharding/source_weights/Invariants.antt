use Rattle.std.proofs.Common.{◌≡◌, ℕ, ◌<◌, cond, drop, length, slice_index}
use Rattle.plan_semantics.specs.Plans.{among}
use Rattle.reshard_planner.proofs.resharding.source_weights.Given as goal

abbrev pub invariant-loop-source : goal.invariant-loop-source
invariant-loop-source l = ((node : ℕ) → node < 255
    → cond (among node (drop l.source-index l.sources)) (slice_index l.held node) (slice_index l.weights node)
    ≡ cond (among node l.sources) (slice_index l.held node) 0) × (length l.weights ≡ 255)
