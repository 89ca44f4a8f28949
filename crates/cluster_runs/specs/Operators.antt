-- The operator of a plan that runs.
use Rattle.std.specs.Prelude.{◌≡◌, ℕ, Bool, false, None}
use Rattle.cluster_runs.specs.declared.operator.Operator as operator

-- the clock changes nothing of what is known of him
abbrev pub clock_tells : {H E : Type 0} → operator.Operator H E → (millis : ℕ) → operator.Operator H E → Type 0
clock_tells s millis t = t ≡ s

abbrev pub clock_waits : {H E : Type 0} → operator.Operator H E → (millis : ℕ) → operator.Operator H E → Type 0
clock_waits s millis t = t ≡ s

-- who names no stop file asks for no pause
abbrev pub stop_file_asks : {H E : Type 0} → operator.Operator H E → (asked : Bool) → operator.Operator H E → Type 0
stop_file_asks s asked t = (t ≡ s) × (s.stop_file.now ≡ None → asked ≡ false)
