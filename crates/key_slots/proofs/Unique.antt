-- A polynomial has one remainder.
use Rattle.std.proofs.Common.{◌≡◌, ℕ, ◌+◌, ◌*◌, ◌<◌, ◌≤◌, ◌^◌, ◌/◌, ◌%◌, ◌⊎◌, Bool, true, false, cond, List, [], ◌∷◌, refl, ap, sym, ◌∙◌, arith, inl, inr}
use Rattle.std.specs.Int.Bits.{bit_xor, xor_assoc, xor_zero_l, xor_zero_r, xor_self, xor_block, xor_lt}
use Rattle.key_slots.specs.Polynomials.{times, modulus, IsRemainder}
use Rattle.key_slots.proofs.Division.{plus, times-plus, xor_middle}

-- p of degree 16, and a with a coefficient from x^17 on
still_high : (a p : ℕ) → 2 ^ 17 ≤ a → p < 2 ^ 17 → 2 ^ 17 ≤ bit_xor p a
still_high a p high low =
    let parts : a ≡ (a / 2 ^ 17) * 2 ^ 17 + a % 2 ^ 17 = omega arith in
    let whole : p ≡ 0 * 2 ^ 17 + p = omega arith in
    let one : 1 ≤ a / 2 ^ 17 = omega arith in
    let e : bit_xor (0 * 2 ^ 17 + p) ((a / 2 ^ 17) * 2 ^ 17 + a % 2 ^ 17) ≡ bit_xor 0 (a / 2 ^ 17) * 2 ^ 17 + bit_xor p (a % 2 ^ 17) = xor_block 17 0 (a / 2 ^ 17) p (a % 2 ^ 17) low (omega arith) in
    let z : bit_xor 0 (a / 2 ^ 17) ≡ a / 2 ^ 17 = xor_zero_l (a / 2 ^ 17) in
    let f : bit_xor p a ≡ bit_xor (0 * 2 ^ 17 + p) ((a / 2 ^ 17) * 2 ^ 17 + a % 2 ^ 17) = λ i. bit_xor (whole i) (parts i) in
    omega (arith, e, z, f)

chosen_low : (b : Bool) → cond b modulus 0 < 2 ^ 17
chosen_low true = omega arith
chosen_low false = omega arith

-- a product with the modulus is nothing, or has degree 16 at least
pub product : (q : List Bool) → (times q modulus ≡ 0) ⊎ (2 ^ 16 ≤ times q modulus)
product [] = inl refl
product (b ∷ q) = next b (times q modulus) (product q)
  where
    bare : (b : Bool) (t : ℕ) → t ≡ 0 → (bit_xor (cond b modulus 0) (2 * t) ≡ 0) ⊎ (2 ^ 16 ≤ bit_xor (cond b modulus 0) (2 * t))
    bare true t e = inr (let f : bit_xor modulus (2 * t) ≡ modulus = ap (λ n. bit_xor modulus (2 * n)) e in omega (arith, f))
    bare false t e = inl (ap (λ n. bit_xor 0 (2 * n)) e)

    next : (b : Bool) (t : ℕ) → (t ≡ 0) ⊎ (2 ^ 16 ≤ t) → (bit_xor (cond b modulus 0) (2 * t) ≡ 0) ⊎ (2 ^ 16 ≤ bit_xor (cond b modulus 0) (2 * t))
    next b t (inl e) = bare b t e
    next b t (inr h) = inr (let high : 2 ^ 17 ≤ 2 * t = omega arith in let g = still_high (2 * t) (cond b modulus 0) high (chosen_low b) in omega (arith, g))

same_if_none : (r s : ℕ) → bit_xor r s ≡ 0 → r ≡ s
same_if_none r s e =
    sym (xor_zero_r r) ∙ ap (bit_xor r) (sym (xor_self s)) ∙ sym (xor_assoc r s s) ∙ ap (λ n. bit_xor n s) e ∙ xor_zero_l s

-- what is added on both sides goes
cancelled : (t u r s : ℕ) → bit_xor t r ≡ bit_xor u s → bit_xor t u ≡ bit_xor r s
cancelled t u r s e =
    same_if_none (bit_xor t u) (bit_xor r s) (xor_middle t u r s ∙ ap (λ n. bit_xor n (bit_xor u s)) e ∙ xor_self (bit_xor u s))

pub one_remainder : (a r s : ℕ) → IsRemainder a r → IsRemainder a s → r ≡ s
one_remainder a r s x y =
    let e : bit_xor (times x.1.0 modulus) (times y.1.0 modulus) ≡ bit_xor r s = cancelled (times x.1.0 modulus) (times y.1.0 modulus) r s (sym x.1.1 ∙ y.1.1) in
    let p : times (plus x.1.0 y.1.0) modulus ≡ bit_xor r s = times-plus x.1.0 y.1.0 modulus ∙ e in
    let low : bit_xor r s < 2 ^ 16 = xor_lt 16 r s x.0 y.0 in
    same_if_none r s (elim (product (plus x.1.0 y.1.0)) [ inl z ↦ sym p ∙ z | inr h ↦ absurd (omega (arith, p, low, h)) ])
