-- What is read of an input.
use Rattle.std.specs.Prelude.{◌≢◌, ℕ, List}

-- the reader gave all of this input, and reported its end
abbrev pub IsWholeInput : {R : Type 0} → (gave : R → ℕ → List ℕ → R → Type 0) → (ends : R → ℕ) → R → R → List ℕ → Type 0
IsWholeInput gave ends reader reader' input = ((n : ℕ) × gave reader n input reader') × (ends reader' ≢ ends reader)
