-- Headers of a few digits.
use Rattle.std.specs.Prelude.{◌≡◌, ℕ, false, List, Ok}
use Rattle.resp2_wire.specs.declared.fault.WireFault.{WireFault}
use Rattle.resp2_wire.specs.Reading.{header_at}

-- the number n without a sign, and its line's end, stand at the beginning, and this is left
abbrev pub Counts : List ℕ → ℕ → List ℕ → Type 0
Counts bytes n rest = (f : WireFault) → header_at f bytes ≡ Ok (record { negative = false; size = n }, rest)
