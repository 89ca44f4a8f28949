-- Polynomials over the field of two elements. A number is the polynomial whose coefficients are its bits: a sum is
-- `bit_xor`, and twice a number is the polynomial times x.
use Rattle.std.specs.Prelude.{◌≡◌, ℕ, ◌+◌, ◌*◌, ◌/◌, ◌%◌, ◌<◌, ◌^◌, Bool, cond, List, [], ◌∷◌, fold, bit_xor, nat_lt}

-- the bits of a text, highest first in each byte
abbrev pub number_of : List ℕ → ℕ
number_of bytes = fold (λ n b. n * 256 + b) 0 bytes

-- the product of p and the polynomial with these coefficients, that of 1 first
abbrev pub times : List Bool → ℕ → ℕ
times [] p = 0
times (b ∷ bs) p = bit_xor (cond b p 0) (2 * times bs p)

-- x^16 + x^12 + x^5 + 1 (CRC-16/XMODEM, which the Redis Cluster specification names in its appendix)
abbrev pub modulus : ℕ
modulus = 0x11021

-- r is the remainder of a by the modulus: a is a product with the modulus, plus r, whose degree is below 16
abbrev pub IsRemainder : ℕ → ℕ → Type 0
IsRemainder a r = (r < 2 ^ 16) × ((q : List Bool) × (a ≡ bit_xor (times q modulus) r))

-- the bits of a text, highest first in each byte, and then sixteen zeros: the text's polynomial times x^16, from the
-- highest coefficient down
abbrev pub coefficients : List ℕ → List ℕ
coefficients [] = 0 ∷ 0 ∷ 0 ∷ 0 ∷ 0 ∷ 0 ∷ 0 ∷ 0 ∷ 0 ∷ 0 ∷ 0 ∷ 0 ∷ 0 ∷ 0 ∷ 0 ∷ 0 ∷ []
coefficients (b ∷ bs) = b / 128 % 2 ∷ b / 64 % 2 ∷ b / 32 % 2 ∷ b / 16 % 2 ∷ b / 8 % 2 ∷ b / 4 % 2 ∷ b / 2 % 2 ∷ b % 2
    ∷ coefficients bs

-- a polynomial of degree 16 at most, by the modulus
abbrev pub reduced : ℕ → ℕ
reduced n = cond (nat_lt n (2 ^ 16)) n (bit_xor n modulus)

-- the remainder of the polynomial with these coefficients, by long division
abbrev pub remainder : List ℕ → ℕ
remainder cs = fold (λ r c. reduced (2 * r + c)) 0 cs
