-- The one spelling of a nonempty request: the array of its words as bulk strings.
use Rattle.std.specs.Prelude.{◌≡◌, ◌≢◌, ℕ, ◌≤◌, List, [], ◌∷◌, ◌++◌, length, Ok}
use Rattle.byte_texts.specs.declared.text.TheConstants.{MAX_BYTES}
use Rattle.resp2_wire.specs.declared.request.TheConstants.{MAX_WORDS}
use Rattle.resp2_wire.specs.Tree.{bulk, array, Trees, none, more}
use Rattle.resp2_wire.specs.Encoding.{encoding}
use Rattle.resp2_wire.specs.Reading.{request_at}
use Rattle.resp2_wire.specs.Stream.{Words}

abbrev pub bulks : Words → Trees
bulks [] = none
bulks (w ∷ ws) = more (bulk w) (bulks ws)

abbrev pub AllShort : Words → Type 0
AllShort [] = Unit {0}
AllShort (w ∷ ws) = (length w ≤ MAX_BYTES) × AllShort ws

-- within the limits of requests
abbrev pub FitsRequest : Words → Type 0
FitsRequest ws = (length ws ≤ MAX_WORDS) × AllShort ws

-- The array of a request's words is read as that request, whatever follows.
abbrev pub RequestDecodingInvertsEncoding : Type 0
RequestDecodingInvertsEncoding = (ws : Words) (rest : List ℕ) → FitsRequest ws
    → request_at (encoding (array (bulks ws)) ++ rest) ≡ Ok (ws, rest)

-- What is read as a nonempty request is the array of its words, each byte of it.
abbrev pub RequestEncodingIsCanonical : Type 0
RequestEncodingIsCanonical = (bytes rest : List ℕ) (ws : Words) → request_at bytes ≡ Ok (ws, rest) → ws ≢ []
    → (bytes ≡ encoding (array (bulks ws)) ++ rest) × FitsRequest ws
