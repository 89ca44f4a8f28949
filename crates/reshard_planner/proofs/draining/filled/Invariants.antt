use Rattle.std.proofs.Common.{◌≡◌, ◌≤◌, ◌<◌, ◌+◌, ℕ, length, slice_index}
use Rattle.reshard_planner.specs.Draining.{filled}
use Rattle.reshard_planner.specs.Starts.{Lists}
use Rattle.reshard_planner.proofs.draining.filled.Given as goal

abbrev pub invariant-loop : goal.invariant-loop
invariant-loop l = record {
  holds : (holds : ℕ → ℕ) → Lists holds 255 l.fn.emptied → Lists (filled holds l.target l.others l.counter) 255 l.quotas;
  small : (node : ℕ) → node < 255 → slice_index l.quotas node ≤ 16384 + l.counter;
  width : length l.quotas ≡ 255;
}
