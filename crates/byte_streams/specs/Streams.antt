-- What is known of a reader or a writer that was lent, and how it was and is left.
use Rattle.std.specs.Prelude.{ℕ, List}

-- of a reader: what it gives, its ends that were reported, and its failures
pub record Input (R : Type 0) : Type 1 where
  pub gave : R → ℕ → List ℕ → R → Type 0
  pub ends : R → ℕ
  pub failures : R → ℕ
  pub before : R
  pub after : R

-- of a writer: what it takes, and its failures
pub record Output (W : Type 0) : Type 1 where
  pub took : W → List ℕ → W → Type 0
  pub failures : W → ℕ
  pub before : W
  pub after : W
