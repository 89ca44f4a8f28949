-- Hexadecimal digits, in lower case.
use Rattle.std.specs.Prelude.{ℕ, ◌+◌, nat_lt, cond}

-- the digit that writes a number below 16
abbrev pub hex_digit : ℕ → ℕ
hex_digit n = cond (nat_lt n 10) (48 + n) (87 + n)
