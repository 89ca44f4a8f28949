use Rattle.std.proofs.Common.{◌≡◌, ℕ, ◌<◌, false, ◌&&◌, eqb, get_or, leb, length}
use Rattle.plan_changes.proofs.drains.marks_back.Given as goal

abbrev pub invariant-loop-place : goal.invariant-loop-place
invariant-loop-place l = (length l.marks.items ≡ l.place) × ((k : ℕ) → k < l.place → get_or l.marks.items k false ≡ (leb 1 (get_or l.times k 0) && eqb (get_or l.after k 0) (get_or l.before k 0)))
