-- Laws of the grammar of replies.
use Rattle.std.specs.Prelude.{◌≡◌, ℕ, List, ◌++◌, Ok}
use Rattle.resp2_wire.specs.declared.limits.TheConstants.{MAX_DEPTH}
use Rattle.resp2_wire.specs.Stability.{Kept}
use Rattle.resp2_wire.specs.Tree.{Tree}
use Rattle.resp2_wire.specs.Encoding.{encoding}
use Rattle.resp2_wire.specs.Limits.{Fits}
use Rattle.resp2_wire.specs.Replies.{reply_at}

-- What is written is read again, whatever follows: so no spelling begins another.
abbrev pub DecodingInvertsEncoding : Type 0
DecodingInvertsEncoding = (t : Tree) (rest : List ℕ) → Fits MAX_DEPTH t
    → reply_at MAX_DEPTH (encoding t ++ rest) ≡ Ok (t, rest)

-- What is read is spelled so, each byte of it: so a reply has one spelling.
abbrev pub EncodingIsCanonical : Type 0
EncodingIsCanonical = (bytes rest : List ℕ) (t : Tree) → reply_at MAX_DEPTH bytes ≡ Ok (t, rest)
    → (bytes ≡ encoding t ++ rest) × Fits MAX_DEPTH t

-- A reply and a fault at the beginning stay, whatever bytes follow.
abbrev pub DecodedRepliesAreStable : Type 0
DecodedRepliesAreStable = (bytes rest : List ℕ)
    → Kept (reply_at MAX_DEPTH bytes) (reply_at MAX_DEPTH (bytes ++ rest)) rest
