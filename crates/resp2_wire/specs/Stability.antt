-- What is read, and a fault, stay whatever bytes follow.
use Rattle.std.specs.Prelude.{◌≡◌, List, ◌++◌, Result, Ok, Err, ℕ}
use Rattle.resp2_wire.specs.declared.fault.Stop.{Stop}
use Rattle.resp2_wire.specs.declared.fault.Stop.TheVariants.{Unfinished, Fault}
use Rattle.resp2_wire.specs.Reading.{request_at}

-- longer is what is read where more follows
abbrev pub Kept : {A : Type 0} → Result (A × List ℕ) Stop → Result (A × List ℕ) Stop → List ℕ → Type 0
Kept (Ok x) longer more = longer ≡ Ok (x.0, x.1 ++ more)
Kept (Err (Fault f)) longer more = longer ≡ Err (Fault f)
Kept (Err Unfinished) longer more = Unit {0}

abbrev pub DecodedRequestsAreStable : Type 0
DecodedRequestsAreStable = (bytes more : List ℕ) → Kept (request_at bytes) (request_at (bytes ++ more)) more
