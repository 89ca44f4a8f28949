-- The hash slot of a key (Redis Cluster specification, "Key distribution model").
use Rattle.std.specs.Prelude.{◌≡◌, ℕ, ◌*◌, ◌%◌, ◌^◌, ◌<◌, List}
use Rattle.std.proofs.Common.{arith}
use Rattle.key_slots.specs.Polynomials.{IsRemainder, coefficients, number_of, remainder}
use Rattle.key_slots.specs.HashTag.{tag}

-- the tag's bits as a polynomial, times x^16, by the modulus, modulo the number of slots
unfoldable pub slot_of : List ℕ → ℕ
slot_of key = remainder (coefficients (tag key)) % 16384

-- the same as a relation: some remainder of the tag's polynomial times x^16 is the slot, modulo the number of slots
abbrev pub IsSlotOf : List ℕ → ℕ → Type 0
IsSlotOf key slot = (r : ℕ) × (IsRemainder (number_of (tag key) * 2 ^ 16) r × (slot ≡ r % 16384))

pub slot_of-lt : (key : List ℕ) → slot_of key < 16384
unfolding slot_of
slot_of-lt key = omega arith
