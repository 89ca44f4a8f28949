-- The owners that a plan leaves, as a table.
use Rattle.std.proofs.Common.{◌≡◌, ℕ, ◌<◌, List, length, map, get_or, arith}
use Rattle.std.specs.List.{range_with_len}
use Rattle.std.proofs.lemmas.List.FromFn.{length-map-range_with_len, get_or-map-range_with_len}
use Rattle.plan_semantics.specs.Plans.{final_owner, LeavesTable}

-- f 0, .., f (n - 1)
table : (ℕ → ℕ) → ℕ → List ℕ
table f n = map f (range_with_len 0 n)

length-table : (f : ℕ → ℕ) (n : ℕ) → length (table f n) ≡ n
unfolding table
length-table f n = length-map-range_with_len f 0 n

get_or-table : (f : ℕ → ℕ) (n s : ℕ) → s < n → get_or (table f n) s 0 ≡ f s
unfolding table
get_or-table f n s h = get_or-map-range_with_len f 0 n s s 0 h (omega arith)

pub leaves_table : LeavesTable
leaves_table plan phases = (table (final_owner plan phases) 16384, record { width = length-table (final_owner plan phases) 16384; owner = get_or-table (final_owner plan phases) 16384 })
