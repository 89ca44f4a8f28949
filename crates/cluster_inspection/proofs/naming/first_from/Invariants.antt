use Rattle.std.proofs.Common.{◌≡◌, ◌<◌, ◌≤◌, ℕ, false}
use Rattle.std.specs.Prelude.{slice_index_or}
use Rattle.cluster_inspection.proofs.naming.first_from.Given as goal

-- none before is marked
abbrev pub invariant-loop-number : goal.invariant-loop-number
invariant-loop-number l = (m : ℕ) → l.fn.from ≤ m → m < l.number → slice_index_or l.marks m false ≡ false
