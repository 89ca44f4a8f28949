-- The first two of some words, and the rest.
use Rattle.std.proofs.Common.{◌≡◌, ℕ, ◌-◌, ◌≤◌, List, [], ◌∷◌, length, get_or, take, drop, arith}
use Rattle.std.proofs.lemmas.List.{take_all}
use Rattle.resp2_wire.specs.Stream.{Words}

pub two_first : (ws : Words) (v n : List ℕ) → 2 ≤ length ws → v ≡ get_or ws 0 v → n ≡ get_or ws 1 n
    → v ∷ n ∷ take (length ws - 2) (drop 2 ws) ≡ ws
two_first [] v n many first second = absurd (omega arith)
two_first (a ∷ []) v n many first second = absurd (omega arith)
two_first (a ∷ b ∷ more) v n many first second =
    let rest : take (length (a ∷ b ∷ more) - 2) more ≡ more = take_all _ more (omega arith) in cc
