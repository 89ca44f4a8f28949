-- The faults: which one is out of memory, and their numbers and names.
use Rattle.std.specs.Prelude.{ℕ, Bool, true, false, List, ◌∷◌, ◌++◌, codes, decimal}
use Rattle.resp2_wire.specs.declared.fault.WireFault.{WireFault}
use Rattle.resp2_wire.specs.declared.fault.WireFault.TheVariants.{NotArray, BadCount, NotBulk, BadLength, TooLarge}
use Rattle.resp2_wire.specs.declared.fault.WireFault.TheVariants.{MissingCrLf, Memory, BadMark}

abbrev pub is_memory : WireFault → Bool
is_memory Memory = true
is_memory f = false

abbrev pub number_of : WireFault → ℕ
number_of NotArray = 1
number_of BadCount = 2
number_of NotBulk = 3
number_of BadLength = 4
number_of TooLarge = 5
number_of MissingCrLf = 6
number_of Memory = 7
number_of BadMark = 8

abbrev pub name_of : WireFault → List ℕ
name_of NotArray = codes "NotArray"
name_of BadCount = codes "BadCount"
name_of NotBulk = codes "NotBulk"
name_of BadLength = codes "BadLength"
name_of TooLarge = codes "TooLarge"
name_of MissingCrLf = codes "MissingCrLf"
name_of Memory = codes "Memory"
name_of BadMark = codes "BadMark"

-- what is printed of a fault, as `5 TooLarge`
abbrev pub text_of : WireFault → List ℕ
text_of f = decimal (number_of f) ++ 32 ∷ name_of f
