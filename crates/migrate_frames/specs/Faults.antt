-- The faults: which one is out of memory, and their numbers and names.
use Rattle.std.specs.Prelude.{ℕ, Bool, true, false, List, ◌∷◌, ◌++◌, codes, decimal}
use Rattle.migrate_frames.specs.declared.fault.FrameFault.{FrameFault}
use Rattle.migrate_frames.specs.declared.fault.FrameFault.TheVariants.{Truncated, BadKind, BadLength, RepeatedKey}
use Rattle.migrate_frames.specs.declared.fault.FrameFault.TheVariants.{Trailing, Memory}

abbrev pub is_memory : FrameFault → Bool
is_memory Memory = true
is_memory f = false

abbrev pub number_of : FrameFault → ℕ
number_of Truncated = 1
number_of BadKind = 2
number_of BadLength = 3
number_of RepeatedKey = 4
number_of Trailing = 5
number_of Memory = 6

abbrev pub name_of : FrameFault → List ℕ
name_of Truncated = codes "Truncated"
name_of BadKind = codes "BadKind"
name_of BadLength = codes "BadLength"
name_of RepeatedKey = codes "RepeatedKey"
name_of Trailing = codes "Trailing"
name_of Memory = codes "Memory"

-- what is printed of a fault, as `3 BadLength`
abbrev pub text_of : FrameFault → List ℕ
text_of f = decimal (number_of f) ++ 32 ∷ name_of f
