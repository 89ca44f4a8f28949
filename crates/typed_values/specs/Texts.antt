-- Operations on a text. A missing text is the empty one, and a missing counter the text `0`.
use Rattle.std.specs.Prelude.{ℕ, List, ◌++◌, length, if◌then◌else◌, Result, Ok, Err, ℤ, ◌+ℤ◌}
use Rattle.std.specs.Option.{option_map_or}
use Rattle.typed_values.specs.Faults.{within}
use Rattle.typed_values.specs.Numbers.{number, fits_i64}
use Rattle.typed_values.specs.declared.fault.ValueFault.{ValueFault}
use Rattle.typed_values.specs.declared.fault.ValueFault.TheVariants.{NotInteger, Overflow}

-- APPEND, https://redis.io/docs/latest/commands/append/: more goes to the end of the text
abbrev pub append_result : List ℕ → List ℕ → Result (List ℕ) ValueFault
append_result text more = within (length (text ++ more)) (text ++ more)

-- a number within 64 bits, signed
abbrev pub in_range : ℤ → Result ℤ ValueFault
in_range z = if fits_i64 z then Ok z else Err Overflow

-- INCRBY, https://redis.io/docs/latest/commands/incrby/: the number that the text spells, and n more
abbrev pub increase_result : List ℕ → ℤ → Result ℤ ValueFault
increase_result text n = option_map_or (λ z. in_range (z +ℤ n)) (number text) (Err NotInteger)
