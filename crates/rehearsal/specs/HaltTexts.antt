-- What a rehearsal writes where it halts.
use Rattle.std.specs.Prelude.{◌≡◌, ◌⊎◌, ℕ, List, [], ◌++◌}
use Rattle.script_lines.specs.declared.fault.ScriptFault.{ScriptFault}
use Rattle.script_lines.specs.declared.fault.Halt.{Halt}
use Rattle.script_lines.specs.declared.fault.Halt.TheVariants.{Fault, Memory, Failed}
use Rattle.rehearsal.specs.Scripts.{halt_text}

-- the fault's own line, unless there is no memory for it
abbrev pub IsFaultText : ℕ → ScriptFault → List ℕ → Type 0
IsFaultText line f text = (text ≡ halt_text line (Fault f)) ⊎ (text ≡ halt_text line Memory)

-- what was printed, and what reports the halt; nothing where a read or a write failed
abbrev pub IsWrittenAtHalt : (printed : List ℕ) → ℕ → Halt → List ℕ → Type 0
IsWrittenAtHalt printed line (Fault f) text = (reported : List ℕ) × IsFaultText line f reported
    × (text ≡ printed ++ reported)
IsWrittenAtHalt printed line Memory text = text ≡ printed ++ halt_text line Memory
IsWrittenAtHalt printed line Failed text = text ≡ []
