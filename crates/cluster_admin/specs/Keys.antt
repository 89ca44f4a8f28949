-- Keys as the administrator names them, and their order in a listing
-- (Redis keys, the section "Redis keys" of the data types page).
use Rattle.std.specs.Prelude.{ℕ, List}
use Rattle.std.specs.Ordering.{nat_cmp}
use Rattle.std.specs.Cmp.Lexicographic.{slice_cmp}
use Rattle.std.specs.declared.cmp.Ordering.{Ordering}

abbrev pub Key : Type 0
Key = List ℕ

-- keys in the order of their bytes
abbrev pub order : Key → Key → Ordering
order = slice_cmp nat_cmp
