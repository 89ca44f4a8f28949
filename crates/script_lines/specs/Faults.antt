-- What is printed of a script's fault, and what a call gives whose meaning is a result or such a fault.
use Rattle.std.specs.Prelude.{◌≡◌, ⊤, List, ℕ, codes, Result, Ok, Err, MatchResult}
use Rattle.script_lines.specs.declared.fault.ScriptFault.{ScriptFault}
use Rattle.script_lines.specs.declared.fault.ScriptFault.TheVariants.{NoCluster, Verb, Node, Number, Word, Seat}
use Rattle.script_lines.specs.declared.fault.Halt.{Halt}
use Rattle.script_lines.specs.declared.fault.Halt.TheVariants.{Fault, Memory, Failed}

-- the number and the name
abbrev pub text_of : ScriptFault → List ℕ
text_of NoCluster = codes "1 NoCluster"
text_of Verb = codes "2 Verb"
text_of Node = codes "3 Node"
text_of Number = codes "4 Number"
text_of Word = codes "5 Word"
text_of Seat = codes "6 Seat"

abbrev pub text_of_halt : Halt → List ℕ
text_of_halt (Fault f) = text_of f
text_of_halt Memory = codes "out of memory"
text_of_halt Failed = codes "a read or a write failed"

-- a call whose meaning is r may halt so: by the fault of r, or as memory runs out
abbrev pub IsHaltOf : {X : Type 0} → Result X ScriptFault → Halt → Type 0
IsHaltOf r (Fault f) = r ≡ Err f
IsHaltOf r Memory = ⊤
IsHaltOf r Failed = ⊥

-- a call whose meaning is r gives this: what r is, or it halts by the fault of r or as memory runs out
abbrev pub Gives : {X : Type 0} → Result X ScriptFault → Result X Halt → Type 0
Gives r given = MatchResult given (λ x. r ≡ Ok x) (λ h. IsHaltOf r h)

-- what comes of f, where there is no fault before it
abbrev pub after : {X Y : Type 0} → Result X ScriptFault → (X → Result Y ScriptFault) → Result Y ScriptFault
after (Ok x) f = f x
after (Err e) f = Err e
