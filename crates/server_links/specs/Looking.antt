-- How far bytes are looked through for the end of the first reply.
use Rattle.std.specs.Prelude.{◌≡◌, ◌≤◌, ℕ, List, ◌++◌, Ok, drop, length}
use Rattle.server_links.specs.Replies.{IsUnfinished, first_reply}
use Rattle.server_links.specs.declared.looked.Look.{Look}
use Rattle.server_links.specs.declared.looked.Look.TheVariants.{On, Short, Whole}
use Rattle.resp2_wire.specs.Encoding.{length_of, spellings}
use Rattle.resp2_wire.specs.Limits.{AllFit}
use Rattle.resp2_wire.specs.Tree.{Tree, Trees}
use Rattle.resp2_wire.specs.declared.limits.TheConstants.{MAX_DEPTH}

-- so many replies stand here, and then the rest
abbrev pub AreLeft : (bytes : List ℕ) → (left : ℕ) → (rest : List ℕ) → Type 0
AreLeft bytes left rest = (ts : Trees) × (bytes ≡ spellings ts ++ rest) × (length_of ts ≡ left) × AllFit MAX_DEPTH ts

-- Once these bytes, and what comes after them, begin with a whole reply, so many replies that are part of it stand
-- after this place, up to its end.
pub record IsLooked (bytes : List ℕ) (place left : ℕ) : Type 0 where
  pub within : place ≤ length bytes
  pub ahead : (later rest : List ℕ) (t : Tree) → first_reply (bytes ++ later) ≡ Ok (t, rest)
      → AreLeft (drop place (bytes ++ later)) left rest

-- what is found at the place
abbrev pub Finds : List ℕ → Look → Type 0
Finds bytes (On l) = IsLooked bytes l.place l.left
Finds bytes Short = IsUnfinished bytes
Finds bytes Whole = Unit {0}
