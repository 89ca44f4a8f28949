-- What is so of each element of a list, by its place.
use Rattle.std.proofs.Common.{◌<◌, ℕ, zero, suc, List, [], ◌∷◌, All, length, arith}
use Rattle.std.specs.List.{AllByRecursion}

pub each : {X : Type 0} (P : X → Type 0) (xs : List X) → AllByRecursion P xs → All P xs
each P [] h zero d lt = absurd (omega (arith, lt))
each P [] h (suc k) d lt = absurd (omega (arith, lt))
each P (x ∷ xs) h zero d lt = h.0
each P (x ∷ xs) h (suc k) d lt = each P xs h.1 k d (omega (arith, lt))
