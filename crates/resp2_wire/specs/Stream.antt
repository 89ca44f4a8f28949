-- The requests of a stream.
use Rattle.std.specs.Prelude.{◌≡◌, ◌≢◌, ℕ, List, [], ◌∷◌, ◌++◌, Option, Some, None, Result, Ok, Err, replicate}
use Rattle.byte_texts.specs.Outcomes.{RefusedUnlessMemory}
use Rattle.resp2_wire.specs.declared.fault.WireFault.{WireFault}
use Rattle.resp2_wire.specs.declared.fault.Stop.{Stop}
use Rattle.resp2_wire.specs.declared.fault.Stop.TheVariants.{Unfinished, Fault}
use Rattle.resp2_wire.specs.Faults.{is_memory}
use Rattle.resp2_wire.specs.Reading.{request_at}

-- a request, as the list of its words
abbrev pub Words : Type 0
Words = List (List ℕ)

-- these requests stand at the beginning of the stream, one after the other, and this is left
abbrev pub Taken : List ℕ → List Words → List ℕ → Type 0
Taken stream [] rest = stream ≡ rest
Taken stream (r ∷ rs) rest = (mid : List ℕ) × (request_at stream ≡ Ok (r, mid)) × Taken mid rs rest

-- new is old without some empty requests at its beginning
abbrev pub Skips : List ℕ → List ℕ → Type 0
Skips old new = (n : ℕ) × Taken old (replicate n []) new

abbrev pub NoEmptyFirst : List ℕ → Type 0
NoEmptyFirst bytes = (rest : List ℕ) → request_at bytes ≡ Ok ([], rest) → ⊥

-- what is to be answered where this is read at the beginning: a request, that the stream has to go on, or a fault
abbrev pub requested : Result (Words × List ℕ) Stop → Result (Option Words) WireFault
requested (Ok x) = Ok (Some x.0)
requested (Err Unfinished) = Ok None
requested (Err (Fault f)) = Err f

-- What next answers where old is fed and not given yet, and what is left then. Out of memory comes in the place of no
-- fault of the stream.
abbrev pub Next : List ℕ → Result (Option Words) WireFault → List ℕ → Type 0
Next old (Ok (Some r)) new = (mid : List ℕ) × (request_at old ≡ Ok (r, mid)) × (r ≢ []) × Skips mid new
Next old (Ok None) new = (request_at old ≡ Err Unfinished) × (new ≡ old)
Next old (Err f) new = RefusedUnlessMemory is_memory (requested (request_at old)) f × (new ≡ old)

-- the requests that are answered
abbrev pub nonempties : List Words → List Words
nonempties [] = []
nonempties ([] ∷ rs) = nonempties rs
nonempties ((w ∷ ws) ∷ rs) = (w ∷ ws) ∷ nonempties rs

-- Of this stream these requests were given, and this is left.
abbrev pub Gave : List ℕ → List Words → List ℕ → Type 0
Gave stream given left = (all : List Words) × Taken stream all left × (given ≡ nonempties all)

-- nothing more can be taken off the beginning, and why
abbrev pub Ends : List ℕ → Stop → Type 0
Ends left stop = request_at left ≡ Err stop

-- However a stream was cut, what was given of it up to where no more could be taken is the same.
abbrev pub DecodingIgnoresChunking : Type 0
DecodingIgnoresChunking = (stream : List ℕ) (g h : List Words) (a b : List ℕ) (s t : Stop) → Gave stream g a → Ends a s
    → Gave stream h b → Ends b t → (g ≡ h) × (a ≡ b) × (s ≡ t)

-- A fault is reported ever after, whatever is fed.
abbrev pub FaultsArePermanent : Type 0
FaultsArePermanent = (old piece new : List ℕ) (f : WireFault) → Ends old (Fault f) → Skips (old ++ piece) new
    → Ends new (Fault f) × (new ≡ old ++ piece)
