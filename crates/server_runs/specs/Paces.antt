-- How long a plan waits that is not to move more keys than so many in a second.
use Rattle.std.specs.Prelude.{ℕ, ◌-◌, ◌*◌, ◌/◌, min}

-- the milliseconds until so many keys are due
abbrev pub early : (keys_per_second keys millis : ℕ) → ℕ
early pace keys millis = min (keys * 1000 / pace - millis) 18446744073709551615
