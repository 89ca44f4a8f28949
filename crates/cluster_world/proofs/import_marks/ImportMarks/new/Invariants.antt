use Rattle.std.proofs.Common.{◌≡◌, ℕ, None, length}
use Rattle.cluster_world.specs.Imported.{since_in}
use Rattle.cluster_world.proofs.import_marks.ImportMarks.new.Given as goal

abbrev pub invariant-loop-number : goal.invariant-loop-number
invariant-loop-number l = (length l.rows.items ≡ l.number) × ((n s : ℕ) → since_in l.rows.items n s ≡ None)
