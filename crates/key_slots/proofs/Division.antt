-- Sums and products of polynomials, and the division of one byte more.
use Rattle.std.proofs.Common.{◌≡◌, ℕ, ◌+◌, ◌*◌, ◌<◌, ◌^◌, Bool, true, false, cond, not, List, [], ◌∷◌, refl, ap, sym, ◌∙◌, arith}
use Rattle.std.proofs.Math.Pow.{pow_pos}
use Rattle.std.specs.Int.Bits.{bit_xor, xor_assoc, xor_comm, xor_zero_l, xor_zero_r, xor_self, xor_block, xor_shifted, xor_lt}
use Rattle.key_slots.specs.Polynomials.{times, modulus, IsRemainder}

pub xor_swap : (a b c : ℕ) → bit_xor (bit_xor a b) c ≡ bit_xor (bit_xor a c) b
xor_swap a b c = xor_assoc a b c ∙ ap (bit_xor a) (xor_comm b c) ∙ sym (xor_assoc a c b)

pub xor_middle : (a b c d : ℕ) → bit_xor (bit_xor a b) (bit_xor c d) ≡ bit_xor (bit_xor a c) (bit_xor b d)
xor_middle a b c d =
    sym (xor_assoc (bit_xor a b) c d)
    ∙ ap (λ n. bit_xor n d) (xor_swap a b c)
    ∙ xor_assoc (bit_xor a c) b d

plus_zero : (n : ℕ) → n + 0 ≡ n
plus_zero n = omega arith

pub scaled : (k a b : ℕ) → bit_xor a b * 2 ^ k ≡ bit_xor (a * 2 ^ k) (b * 2 ^ k)
scaled k a b =
    sym (plus_zero _) ∙ sym (xor_block k a b 0 0 (pow_pos k) (pow_pos k))
    ∙ (λ i. bit_xor (plus_zero (a * 2 ^ k) i) (plus_zero (b * 2 ^ k) i))

twice : (n : ℕ) → n * 2 ^ 1 ≡ 2 * n
twice n = omega arith

pub doubled : (a b : ℕ) → 2 * bit_xor a b ≡ bit_xor (2 * a) (2 * b)
doubled a b = sym (twice _) ∙ scaled 1 a b ∙ (λ i. bit_xor (twice a i) (twice b i))

abbrev pub differs : Bool → Bool → Bool
differs true b = not b
differs false b = b

-- the sum, coefficient by coefficient
abbrev pub plus : List Bool → List Bool → List Bool
plus [] r = r
plus (a ∷ q) [] = a ∷ q
plus (a ∷ q) (b ∷ r) = differs a b ∷ plus q r

lowest : (a b : Bool) (p : ℕ) → cond (differs a b) p 0 ≡ bit_xor (cond a p 0) (cond b p 0)
lowest true true p = sym (xor_self p)
lowest true false p = sym (xor_zero_r p)
lowest false true p = sym (xor_zero_l p)
lowest false false p = refl

pub times-plus : (q r : List Bool) (p : ℕ) → times (plus q r) p ≡ bit_xor (times q p) (times r p)
times-plus [] r p = sym (xor_zero_l (times r p))
times-plus (a ∷ q) [] p = sym (xor_zero_r _)
times-plus (a ∷ q) (b ∷ r) p =
    (λ i. bit_xor (lowest a b p i) (2 * times-plus q r p i))
    ∙ ap (bit_xor (bit_xor (cond a p 0) (cond b p 0))) (doubled (times q p) (times r p))
    ∙ xor_middle (cond a p 0) (cond b p 0) (2 * times q p) (2 * times r p)

-- times x^8
abbrev pub raised : List Bool → List Bool
raised q = false ∷ false ∷ false ∷ false ∷ false ∷ false ∷ false ∷ false ∷ q

once : (q : List Bool) (p : ℕ) → times (false ∷ q) p ≡ 2 * times q p
once q p = xor_zero_l _

pub times-raised : (q : List Bool) (p : ℕ) → times (raised q) p ≡ times q p * 2 ^ 8
times-raised q p =
    let a = once q p in
    let b = once (false ∷ q) p in
    let c = once (false ∷ false ∷ q) p in
    let d = once (false ∷ false ∷ false ∷ q) p in
    let e = once (false ∷ false ∷ false ∷ false ∷ q) p in
    let f = once (false ∷ false ∷ false ∷ false ∷ false ∷ q) p in
    let g = once (false ∷ false ∷ false ∷ false ∷ false ∷ false ∷ q) p in
    let h = once (false ∷ false ∷ false ∷ false ∷ false ∷ false ∷ false ∷ q) p in
    omega (arith, a, b, c, d, e, f, g, h)

gathered : (a h l b : ℕ) → bit_xor (bit_xor a (bit_xor h l)) b ≡ bit_xor a (bit_xor (bit_xor h b) l)
gathered a h l b = xor_assoc a (bit_xor h l) b ∙ ap (bit_xor a) (xor_swap h l b)

regrouped : (a c t l : ℕ) → bit_xor a (bit_xor (bit_xor c t) l) ≡ bit_xor (bit_xor a c) (bit_xor t l)
regrouped a c t l = ap (bit_xor a) (xor_assoc c t l) ∙ sym (xor_assoc a c (bit_xor t l))

-- what the table's entry t has at the byte h
abbrev pub IsEntry : ℕ → ℕ → Type 0
IsEntry h t = IsRemainder (h * 2 ^ 16) t

split_high : (n b : ℕ) → b < 2 ^ 8 → (n * 256 + b) * 2 ^ 16 ≡ bit_xor ((n * 2 ^ 16) * 2 ^ 8) (b * 2 ^ 16)
split_high n b h =
    let lt : b * 2 ^ 16 < 2 ^ 24 = omega arith in
    let e : (n * 2 ^ 16) * 2 ^ 8 ≡ n * 2 ^ 24 = omega arith in
    rw e (let f : (n * 256 + b) * 2 ^ 16 ≡ n * 2 ^ 24 + b * 2 ^ 16 = omega arith in f ∙ sym (xor_shifted n 24 (b * 2 ^ 16) lt))

split_low : (r hi lo : ℕ) → r ≡ hi * 2 ^ 8 + lo → lo < 2 ^ 8 → r * 2 ^ 8 ≡ bit_xor (hi * 2 ^ 16) (lo * 2 ^ 8)
split_low r hi lo e h =
    let lt : lo * 2 ^ 8 < 2 ^ 16 = omega arith in
    let f : r * 2 ^ 8 ≡ hi * 2 ^ 16 + lo * 2 ^ 8 = omega arith in
    f ∙ sym (xor_shifted hi 16 (lo * 2 ^ 8) lt)

-- one byte more
pub divided : (n r b hi lo t : ℕ) → IsRemainder (n * 2 ^ 16) r → b < 2 ^ 8 → r ≡ hi * 2 ^ 8 + lo → lo < 2 ^ 8 → IsEntry (bit_xor hi b) t → IsRemainder ((n * 256 + b) * 2 ^ 16) (bit_xor t (lo * 2 ^ 8))
divided n r b hi lo t before byte parts low entry =
    let q = before.1.0 in
    let u = entry.1.0 in
    let l : lo * 2 ^ 8 < 2 ^ 16 = omega arith in (
      xor_lt 16 t (lo * 2 ^ 8) entry.0 l,
      (
        plus (raised q) u,
        split_high n b byte
            ∙ ap (λ a. bit_xor (a * 2 ^ 8) (b * 2 ^ 16)) before.1.1
            ∙ ap (λ a. bit_xor a (b * 2 ^ 16)) (scaled 8 (times q modulus) r)
            ∙ (λ i. bit_xor (bit_xor (sym (times-raised q modulus) i) (split_low r hi lo parts low i)) (b * 2 ^ 16))
            ∙ gathered (times (raised q) modulus) (hi * 2 ^ 16) (lo * 2 ^ 8) (b * 2 ^ 16)
            ∙ ap (λ a. bit_xor (times (raised q) modulus) (bit_xor a (lo * 2 ^ 8))) (sym (scaled 16 hi b) ∙ entry.1.1)
            ∙ regrouped (times (raised q) modulus) (times u modulus) t (lo * 2 ^ 8)
            ∙ ap (λ a. bit_xor a (bit_xor t (lo * 2 ^ 8))) (sym (times-plus (raised q) u modulus)),
      ),
    )
