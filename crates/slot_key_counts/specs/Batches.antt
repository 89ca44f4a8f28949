-- How many requests a batch has.
use Rattle.std.specs.Prelude.{◌≤◌, ℕ, Bool, length}
use Rattle.slot_key_counts.specs.Rounds.{batch}

-- whichever of the slots of a round are asked for
abbrev pub AreSmall : Type 0
AreSmall = (asked : ℕ → Bool) (round : ℕ) → length (batch asked round 256) ≤ 256
