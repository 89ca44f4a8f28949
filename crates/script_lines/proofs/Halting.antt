-- What `?` hands on where a call halts.
use Rattle.std.proofs.Common.{◌≡◌, Result, Err, refl}
use Rattle.std.specs.Prelude.{MatchResult, IsErrAnd}
use Rattle.std.proofs.lemmas.Result.{err_from_is_err_and}
use Rattle.script_lines.specs.declared.fault.ScriptFault.{ScriptFault}
use Rattle.script_lines.specs.declared.fault.Halt.{Halt}
use Rattle.script_lines.specs.declared.fault.Halt.TheVariants.{Fault, Memory, Failed}
use Rattle.script_lines.specs.Faults.{IsHaltOf, after}

-- an error that `?` hands on, where the call before it may halt so
pub halted : {X Y : Type 0} (wanted : Result X ScriptFault) (r : Result Y Halt) (P : Y → Type 0) (h : Halt) → IsErrAnd r (λ e. e ≡ h) → IsHaltOf wanted h → MatchResult r P (λ e. IsHaltOf wanted e)
halted wanted r P h is g = by (err_from_is_err_and r is)
  where
    by : (y : Halt) × (r ≡ Err y) × (y ≡ h) → MatchResult r P (λ e. IsHaltOf wanted e)
    by p = rw (p.1, p.2) g

-- what halts a first call halts what comes after it
pub halts_after : {X Y : Type 0} (first : Result X ScriptFault) (k : X → Result Y ScriptFault) (h : Halt) → IsHaltOf first h → IsHaltOf (after first k) h
halts_after first k (Fault f) g = rw g refl
halts_after first k Memory g = tt
halts_after first k Failed g = absurd g

pub handed_on : {X Y Z : Type 0} (first : Result X ScriptFault) (k : X → Result Y ScriptFault) (r : Result Z Halt) (P : Z → Type 0) (h : Halt) → IsErrAnd r (λ e. e ≡ h) → IsHaltOf first h → MatchResult r P (λ e. IsHaltOf (after first k) e)
handed_on first k r P h is g = halted (after first k) r P h is (halts_after first k h g)
