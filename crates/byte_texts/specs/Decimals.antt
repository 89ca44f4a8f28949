-- Decimal numbers as texts write them, each in its one shortest spelling: no `+`, no zero before other digits, no `-0`.
use Rattle.std.specs.Prelude.{◌≡◌, ◌↔◌, ℕ, ◌+◌, ◌-◌, ◌*◌, ◌^◌, ◌<◌, Bool, true, false, nat_le, ◌==◌, ◌&&◌}
use Rattle.std.specs.Prelude.{if◌then◌else◌, List, [], ◌∷◌, length, Option, Some, None, decimal}
use Rattle.std.specs.Option.{option_and_then}
use Rattle.byte_texts.specs.declared.decimals.Numeral.{Numeral}

abbrev pub is_digit : ℕ → Bool
is_digit b = nat_le 48 b && nat_le b 57

-- the number that begins with n and goes on with these digits
abbrev pub digits_from : ℕ → List ℕ → Option ℕ
digits_from n [] = Some n
digits_from n (b ∷ text) = if is_digit b then digits_from (10 * n + (b - 48)) text else None

-- a digit 1 to 9 followed by digits
abbrev pub positive_of : List ℕ → Option ℕ
positive_of [] = None
positive_of (b ∷ text) = if nat_le 49 b && nat_le b 57 then digits_from (b - 48) text else None

-- `0`, or a digit 1 to 9 followed by digits
unfoldable pub number_of : List ℕ → Option ℕ
number_of [] = None
number_of (b ∷ text) = if b == 48 && length text == 0 then Some 0 else positive_of (b ∷ text)

-- a number from least to most
abbrev pub between : (least most : ℕ) → ℕ → Option ℕ
between least most n = if nat_le least n && nat_le n most then Some n else None

abbrev pub number_in : (least most : ℕ) → List ℕ → Option ℕ
number_in least most t = option_and_then (between least most) (number_of t)

-- a number of 64 bits
abbrev pub wide_number : List ℕ → Option ℕ
wide_number t = number_in 0 18446744073709551615 t

abbrev pub with_sign : Bool → Option ℕ → Option Numeral
with_sign s None = None
with_sign s (Some n) = Some (record { negative = s; size = n })

-- a number, or `-` and a number that is not 0
unfoldable pub numeral_of : List ℕ → Option Numeral
numeral_of [] = None
numeral_of (b ∷ text) = if b == 45 then with_sign true (positive_of text) else with_sign false (number_of (b ∷ text))

-- how a number with a sign is written
abbrev pub numeral_text : Numeral → List ℕ
numeral_text n = if n.negative then 45 ∷ decimal n.size else decimal n.size

-- a text is read as a number exactly where it is what that number is written as
abbrev pub NumbersHaveOneText : Type 0
NumbersHaveOneText = (t : List ℕ) (n : ℕ) → n < 2 ^ 64 → (number_of t ≡ Some n) ↔ (t ≡ decimal n)
