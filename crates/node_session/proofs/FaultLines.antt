-- The line of a fault, by its one digit.
use Rattle.std.proofs.Common.{◌≡◌, ℕ, ◌<◌, ◌+◌, List, [], ◌∷◌, ◌++◌, ap, sym, ◌∙◌, arith}
use Rattle.std.specs.Prelude.{codes}
use Rattle.std.proofs.lemmas.Fmt.{decimal_digit}
use Rattle.resp2_wire.specs.Faults.{number_of, name_of}
use Rattle.resp2_wire.specs.declared.fault.WireFault.{WireFault}
use Rattle.resp2_wire.specs.declared.fault.WireFault.TheVariants.{NotArray, BadCount, NotBulk, BadLength, TooLarge, MissingCrLf, Memory, BadMark}
use Rattle.node_session.specs.SessionBytes.{fault_line}

one_digit : (f : WireFault) → number_of f < 10
one_digit NotArray = omega arith
one_digit BadCount = omega arith
one_digit NotBulk = omega arith
one_digit BadLength = omega arith
one_digit TooLarge = omega arith
one_digit MissingCrLf = omega arith
one_digit Memory = omega arith
one_digit BadMark = omega arith

abbrev line_by : WireFault → List ℕ → List ℕ
line_by f digits = codes "-ERR Protocol error: " ++ (digits ++ 32 ∷ name_of f) ++ codes "\r\n"

pub line_is : (f g : WireFault) → g ≡ f → line_by f ((48 + number_of f) ∷ []) ≡ fault_line g
unfolding fault_line
line_is f g is = ap (line_by f) (sym (decimal_digit (number_of f) (one_digit f))) ∙ ap fault_line (sym is)
