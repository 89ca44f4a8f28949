-- What becomes of a text that is written.
use Rattle.std.specs.Prelude.{◌≢◌, ◌⊎◌, ℕ, List, take}

-- all of it went out, or only its prefix, and then a write failed
abbrev pub Writes : {W : Type 0} → (took : W → List ℕ → W → Type 0) → (failures : W → ℕ) → List ℕ → W → W → Type 0
Writes took failures text old new =
    took old text new ⊎ ((n : ℕ) × took old (take n text) new × (failures new ≢ failures old))
