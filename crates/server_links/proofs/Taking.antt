-- The bytes of a reply that was read are some of those that have come, and what has come stays few.
use Rattle.std.proofs.Common.{◌≡◌, ℕ, ◌+◌, ◌≤◌, List, length, take, subst, arith}
use Rattle.std.proofs.lemmas.List.{length-take}

pub taken_within : (k : ℕ) (bytes spelled : List ℕ) (limit : ℕ) → take k bytes ≡ spelled → length bytes ≤ limit
    → length spelled ≤ limit
taken_within k bytes spelled limit is few = subst (λ (xs : List ℕ). length xs ≤ limit) is (rw (length-take k bytes) (omega arith))

-- what was within the limit, and then one read
pub read_on : (a b c limit : ℕ) → a ≤ limit → b ≤ a → c ≤ b + 65536 → c ≤ limit + 65536
read_on a b c limit few less more = omega arith
