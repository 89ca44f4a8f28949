-- How a script's output shows a reply: a line for each text, number and bulk, and below an array's line its replies,
-- two spaces further in.
use Rattle.std.specs.Prelude.{ℕ, ◌+◌, Bool, cond, ◌&&◌, not, nat_eq, nat_le, List, [], ◌∷◌, ◌++◌}
use Rattle.std.specs.Prelude.{length, replicate, decimal}
use Rattle.std.specs.Fmt.{signed_decimal}
use Rattle.hex.specs.Hex.{encode_lower}
use Rattle.resp2_wire.specs.Tree.{Tree, simple, error, number, bulk, null, null_array, array, Trees, none, more}
use Rattle.resp2_wire.specs.Encoding.{length_of}

-- so many spaces, a mark, a text and a line feed
abbrev pub line : (indent mark : ℕ) → List ℕ → List ℕ
line indent mark t = replicate indent 32 ++ mark ∷ t ++ 10 ∷ []

-- ---- a bulk: its length, and after a space its bytes if there are any

-- visible, and not the backslash
abbrev pub stands_for_itself : ℕ → Bool
stands_for_itself b = nat_le 33 b && nat_le b 126 && not (nat_eq b 92)

-- the byte, or `\xHH` in lower case
abbrev pub shown_byte : ℕ → List ℕ
shown_byte b = cond (stands_for_itself b) (b ∷ []) (92 ∷ 120 ∷ encode_lower (b ∷ []))

abbrev pub shown_bytes : List ℕ → List ℕ
shown_bytes [] = []
shown_bytes (b ∷ t) = shown_byte b ++ shown_bytes t

abbrev pub after_space : List ℕ → List ℕ
after_space [] = []
after_space (b ∷ t) = 32 ∷ shown_bytes (b ∷ t)

abbrev pub bulk_text : List ℕ → List ℕ
bulk_text t = decimal (length t) ++ after_space t

-- ---- a reply after so many spaces

abbrev mutual
  pub shown : ℕ → Tree → List ℕ
  shown indent (simple t) = line indent 43 t
  shown indent (error t) = line indent 45 t
  shown indent (number n) = line indent 58 (signed_decimal n)
  shown indent (bulk t) = line indent 36 (bulk_text t)
  shown indent null = line indent 36 (45 ∷ 49 ∷ [])
  shown indent null_array = line indent 42 (45 ∷ 49 ∷ [])
  shown indent (array ts) = line indent 42 (decimal (length_of ts)) ++ all_shown (indent + 2) ts

  pub all_shown : ℕ → Trees → List ℕ
  all_shown indent none = []
  all_shown indent (more t ts) = shown indent t ++ all_shown indent ts
