-- Numbers as texts spell them.
-- The integers of the RESP protocol, https://redis.io/docs/latest/develop/reference/protocol-spec/#integers, and
-- what INCR takes for one, https://redis.io/docs/latest/commands/incr/: 64 bits, signed, in the one shortest spelling.
use Rattle.std.specs.Prelude.{ℕ, ◌-◌, ◌^◌, Bool, if◌then◌else◌, nat_le, nat_lt, List, Option, None, Some, ℤ}
use Rattle.std.specs.Prelude.{pos, negsuc}
use Rattle.std.specs.Option.{option_and_then}
use Rattle.byte_texts.specs.Decimals.{numeral_of}
use Rattle.byte_texts.specs.declared.decimals.Numeral.{Numeral}

abbrev pub fits_i64 : ℤ → Bool
fits_i64 (pos n) = nat_lt n (2 ^ 63)
fits_i64 (negsuc n) = nat_lt n (2 ^ 63)

-- the number of 64 bits that this is, if it is one
abbrev pub signed : Numeral → Option ℤ
signed n = if n.negative then (if nat_le n.size (2 ^ 63) then Some (negsuc (n.size - 1)) else None)
    else (if nat_lt n.size (2 ^ 63) then Some (pos n.size) else None)

-- the number that the text spells
unfoldable pub number : List ℕ → Option ℤ
number text = option_and_then signed (numeral_of text)
