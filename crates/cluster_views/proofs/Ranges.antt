-- Slots in a range.
use Rattle.std.proofs.Common.{◌≡◌, ◌≢◌, ℕ, ◌+◌, ◌<◌, ◌≤◌, Bool, true, false, ◌&&◌, max, List, Option, Some, None}
use Rattle.std.proofs.Common.{length}
use Rattle.std.proofs.Common.{set, get_or, get_or-set_other, get_or-set_same, below_more, refl, arith}
use Rattle.std.specs.Prelude.{nat_le, nat_lt}
use Rattle.std.proofs.lemmas.Bool.Decides.{nat_tests}

-- two tests that say the same
same_test : (a b : Bool) → (a ≡ true → b ≡ true) → (b ≡ true → a ≡ true) → a ≡ b
same_test true true f g = refl
same_test true false f g = (let e = f refl in absurd cc)
same_test false true f g = (let e = g refl in absurd cc)
same_test false false f g = refl

-- from the first to before the end, which is after the last
pub same_range : (first last end s : ℕ) → last + 1 ≤ end → end ≤ max first (last + 1) → first ≤ end
    → (nat_le first s && nat_lt s end) ≡ (nat_le first s && nat_le s last)
same_range first last end s a b c =
    same_test (nat_le first s && nat_lt s end) (nat_le first s && nat_le s last)
    (λ h. grind (arith, nat_tests)) (λ h. grind (arith, nat_tests))

-- the owners of the slots before this one, and its own
pub set_more : (row : List (Option ℕ)) (os : List ℕ) (i m : ℕ) → i < length os → get_or row i None ≡ Some m
    → ((s : ℕ) → s < i → get_or row s None ≡ Some (get_or os s 0))
    → (s : ℕ) → s < i + 1 → get_or row s None ≡ Some (get_or (set os i m) s 0)
set_more row os i m lt here before =
    below_more (λ s. get_or row s None ≡ Some (get_or (set os i m) s 0)) i
    (λ s less. let apart : s ≢ i = omega arith in rw get_or-set_other (before s less))
    (rw get_or-set_same here)
