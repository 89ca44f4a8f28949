-- The bytes of a reply, by the RESP specification (https://redis.io/docs/latest/develop/reference/protocol-spec/).
use Rattle.std.specs.Prelude.{ℕ, suc, List, [], ◌∷◌, ◌++◌, length, decimal}
use Rattle.std.specs.Fmt.{signed_decimal}
use Rattle.resp2_wire.specs.Tree.{Tree, simple, error, number, bulk, null, null_array, array, Trees, none, more}

-- how many replies stand in an array
abbrev pub length_of : Trees → ℕ
length_of none = 0
length_of (more t ts) = suc (length_of ts)

-- a mark, a text, CR and LF
abbrev pub line : ℕ → List ℕ → List ℕ
line mark text = mark ∷ text ++ 13 ∷ 10 ∷ []

abbrev mutual
  pub encoding : Tree → List ℕ
  encoding (simple t) = line 43 t
  encoding (error t) = line 45 t
  encoding (number n) = line 58 (signed_decimal n)
  encoding (bulk t) = line 36 (decimal (length t)) ++ t ++ 13 ∷ 10 ∷ []
  encoding null = line 36 (45 ∷ 49 ∷ [])
  encoding null_array = line 42 (45 ∷ 49 ∷ [])
  encoding (array ts) = line 42 (decimal (length_of ts)) ++ spellings ts

  pub spellings : Trees → List ℕ
  spellings none = []
  spellings (more t ts) = encoding t ++ spellings ts
