-- The limits of replies.
use Rattle.std.specs.Prelude.{◌≢◌, ℕ, ◌-◌, ◌≤◌, ◌<◌, ◌^◌, ℤ, pos, negsuc, Bool, true, ◌&&◌, ◌||◌, ◌==◌, not, nat_lt}
use Rattle.std.specs.Prelude.{List, [], ◌∷◌, length}
use Rattle.std.specs.List.{list_all}
use Rattle.byte_texts.specs.declared.text.TheConstants.{MAX_BYTES}
use Rattle.resp2_wire.specs.declared.limits.TheConstants.{MAX_LINE_BYTES, MAX_REPLIES}
use Rattle.resp2_wire.specs.Tree.{Tree, simple, error, number, bulk, null, null_array, array, Trees, none, more}
use Rattle.resp2_wire.specs.Encoding.{length_of}

-- neither CR nor LF
abbrev pub NoLineEnd : List ℕ → Type 0
NoLineEnd [] = Unit {0}
NoLineEnd (b ∷ text) = (b ≢ 13) × (b ≢ 10) × NoLineEnd text

-- the range of i64
abbrev pub Fits64 : ℤ → Type 0
Fits64 (pos n) = n < 2 ^ 63
Fits64 (negsuc n) = n < 2 ^ 63

-- What a caller of the encoder owes: the texts of lines, and the lengths and the depth of arrays.
abbrev mutual
  pub Within : ℕ → Tree → Type 0
  Within depth (simple t) = NoLineEnd t × (length t ≤ MAX_LINE_BYTES)
  Within depth (error t) = NoLineEnd t × (length t ≤ MAX_LINE_BYTES)
  Within depth (number n) = Unit {0}
  Within depth (bulk t) = Unit {0}
  Within depth null = Unit {0}
  Within depth null_array = 0 < depth
  Within depth (array ts) = (0 < depth) × (length_of ts ≤ MAX_REPLIES) × AllWithin (depth - 1) ts

  pub AllWithin : ℕ → Trees → Type 0
  AllWithin depth none = Unit {0}
  AllWithin depth (more t ts) = Within depth t × AllWithin depth ts

-- What the types of the program keep: the range of a number and the length of a bulk string.
abbrev mutual
  pub Typed : Tree → Type 0
  Typed (simple t) = Unit {0}
  Typed (error t) = Unit {0}
  Typed (number n) = Fits64 n
  Typed (bulk t) = length t ≤ MAX_BYTES
  Typed null = Unit {0}
  Typed null_array = Unit {0}
  Typed (array ts) = AllTyped ts

  pub AllTyped : Trees → Type 0
  AllTyped none = Unit {0}
  AllTyped (more t ts) = Typed t × AllTyped ts

-- Both: what has a spelling, with arrays at most so deep.
abbrev mutual
  pub Fits : ℕ → Tree → Type 0
  Fits depth (simple t) = NoLineEnd t × (length t ≤ MAX_LINE_BYTES)
  Fits depth (error t) = NoLineEnd t × (length t ≤ MAX_LINE_BYTES)
  Fits depth (number n) = Fits64 n
  Fits depth (bulk t) = length t ≤ MAX_BYTES
  Fits depth null = Unit {0}
  Fits depth null_array = 0 < depth
  Fits depth (array ts) = (0 < depth) × (length_of ts ≤ MAX_REPLIES) × AllFit (depth - 1) ts

  pub AllFit : ℕ → Trees → Type 0
  AllFit depth none = Unit {0}
  AllFit depth (more t ts) = Fits depth t × AllFit depth ts

-- The same limits as `Within`, as a test.
abbrev pub ends_line : ℕ → Bool
ends_line b = b == 13 || b == 10

-- a text that can stand in one line
abbrev pub is_line : List ℕ → Bool
is_line t = not (nat_lt MAX_LINE_BYTES (length t)) && list_all (λ b. not (ends_line b)) t

abbrev mutual
  pub is_within : ℕ → Tree → Bool
  is_within depth (simple t) = is_line t
  is_within depth (error t) = is_line t
  is_within depth (number n) = true
  is_within depth (bulk t) = true
  is_within depth null = true
  is_within depth null_array = nat_lt 0 depth
  is_within depth (array ts) = nat_lt 0 depth && (not (nat_lt MAX_REPLIES (length_of ts)) && are_within (depth - 1) ts)

  pub are_within : ℕ → Trees → Bool
  are_within depth none = true
  are_within depth (more t ts) = is_within depth t && are_within depth ts
