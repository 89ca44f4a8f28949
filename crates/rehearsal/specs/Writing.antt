-- A writer that was lent, and what becomes of a text whose writing failed.
use Rattle.std.specs.Prelude.{◌≡◌, ◌≢◌, ℕ, List, take}
use Rattle.byte_streams.specs.Streams.{Output}
use Rattle.script_lines.specs.declared.fault.Halt.{Halt}
use Rattle.script_lines.specs.declared.fault.Halt.TheVariants.{Failed}

-- a writer that takes and fails so, from one state to another
abbrev pub output : {W : Type 0} → (took : W → List ℕ → W → Type 0) → (failures : W → ℕ) → W → W → Output W
output took failures before after = record { took = took; failures = failures; before = before; after = after }

-- a write failed, and only a prefix of the text went out
abbrev pub IsCut : {W : Type 0} → Output W → List ℕ → Halt → Type 0
IsCut writer text h = (h ≡ Failed) × (n : ℕ) × writer.took writer.before (take n text) writer.after
    × (writer.failures writer.after ≢ writer.failures writer.before)
