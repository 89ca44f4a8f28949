use Rattle.std.proofs.Common.{◌≡◌, ◌+◌, ◌<◌, ◌≤◌, ◌&&◌, ℕ, None, Some, cond, max}
use Rattle.std.specs.Prelude.{nat_le, nat_lt, slice_index_or}
use Rattle.std.specs.Option.{option_or}
use Rattle.cluster_views.proofs.owners.put_range.Given as goal

-- the slots before this one have an owner
abbrev pub invariant-loop-slot : goal.invariant-loop-slot
invariant-loop-slot l = record {
  put : (s : ℕ) → s < 16384 → slice_index_or l.row s None ≡ option_or (slice_index_or l.initial.row s None)
      (cond (nat_le l.fn.first s && nat_lt s l.slot) (Some l.owner) None);
  within : l.slot ≤ max l.fn.first (l.fn.last + 1);
}
