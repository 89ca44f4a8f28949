use Rattle.std.proofs.Common.{◌≡◌, ℕ, ◌<◌, false, get_or, leb, length}
use Rattle.plan_changes.proofs.drains.marks_again.Given as goal

abbrev pub invariant-loop-place : goal.invariant-loop-place
invariant-loop-place l = (length l.marks.items ≡ l.place) × ((k : ℕ) → k < l.place → get_or l.marks.items k false ≡ leb 2 (get_or l.times k 0))
