-- The division of four bytes more at once.
use Rattle.std.proofs.Common.{◌≡◌, ℕ, ◌+◌, ◌*◌, ◌<◌, ◌≤◌, ◌^◌, Bool, List, ◌∷◌, fold, length, get_or, drop, refl, ap, sym, subst, ◌∙◌, arith}
use Rattle.std.proofs.lemmas.List.{at_drop_more, at_drop_all}
use Rattle.std.specs.Int.Bits.{bit_xor, xor_assoc, xor_comm, xor_shifted, xor_lt}
use Rattle.key_slots.specs.Polynomials.{times, modulus, IsRemainder, number_of}
use Rattle.key_slots.proofs.Division.{plus, times-plus, raised, times-raised, scaled, xor_middle}
use Rattle.key_slots.proofs.Long.{nothing}

-- the remainder of a sum is the sum of the remainders
summed : (a b r s : ℕ) → IsRemainder a r → IsRemainder b s → IsRemainder (bit_xor a b) (bit_xor r s)
summed a b r s x y = (
  xor_lt 16 r s x.0 y.0,
  (
    plus x.1.0 y.1.0,
    (λ i. bit_xor (x.1.1 i) (y.1.1 i))
        ∙ xor_middle (times x.1.0 modulus) r (times y.1.0 modulus) s
        ∙ ap (λ k. bit_xor k (bit_xor r s)) (sym (times-plus x.1.0 y.1.0 modulus)),
  ),
)

-- what differs by a product with the modulus has the same remainder
carried : (q : List Bool) (a r d t : ℕ) → a ≡ bit_xor (times q modulus) r → IsRemainder (bit_xor r d) t → IsRemainder (bit_xor a d) t
carried q a r d t e x = (
  x.0,
  (
    plus q x.1.0,
    ap (λ k. bit_xor k d) e
        ∙ xor_assoc (times q modulus) r d
        ∙ ap (bit_xor (times q modulus)) x.1.1
        ∙ sym (xor_assoc (times q modulus) (times x.1.0 modulus) t)
        ∙ ap (λ k. bit_xor k t) (sym (times-plus q x.1.0 modulus)),
  ),
)

lifted : (q : List Bool) (a r : ℕ) → a ≡ bit_xor (times q modulus) r → a * 2 ^ 8 ≡ bit_xor (times (raised q) modulus) (r * 2 ^ 8)
lifted q a r e =
    ap (λ k. k * 2 ^ 8) e ∙ scaled 8 (times q modulus) r ∙ ap (λ k. bit_xor k (r * 2 ^ 8)) (sym (times-raised q modulus))

lifted_by_four : (q : List Bool) (n r : ℕ) → n * 2 ^ 16 ≡ bit_xor (times q modulus) r → n * 2 ^ 48 ≡ bit_xor (times (raised (raised (raised (raised q)))) modulus) (r * 2 ^ 32)
lifted_by_four q n r e =
    let one = lifted q (n * 2 ^ 16) r e in
    let two = lifted (raised q) ((n * 2 ^ 16) * 2 ^ 8) (r * 2 ^ 8) one in
    let three = lifted (raised (raised q)) (((n * 2 ^ 16) * 2 ^ 8) * 2 ^ 8) ((r * 2 ^ 8) * 2 ^ 8) two in
    let four = lifted (raised (raised (raised q))) ((((n * 2 ^ 16) * 2 ^ 8) * 2 ^ 8) * 2 ^ 8) (((r * 2 ^ 8) * 2 ^ 8) * 2 ^ 8) three in
    let left : n * 2 ^ 48 ≡ ((((n * 2 ^ 16) * 2 ^ 8) * 2 ^ 8) * 2 ^ 8) * 2 ^ 8 = omega arith in
    let right : (((r * 2 ^ 8) * 2 ^ 8) * 2 ^ 8) * 2 ^ 8 ≡ r * 2 ^ 32 = omega arith in
    left ∙ four ∙ ap (bit_xor (times (raised (raised (raised (raised q)))) modulus)) right

abbrev pub word : ℕ → ℕ → ℕ → ℕ → ℕ
word a b c d = ((a * 256 + b) * 256 + c) * 256 + d

-- the four bytes, each at its place
abbrev pub parted : ℕ → ℕ → ℕ → ℕ → ℕ
parted a b c d = bit_xor (a * 2 ^ 40) (bit_xor (b * 2 ^ 32) (bit_xor (c * 2 ^ 24) (d * 2 ^ 16)))

spread : (a b c d : ℕ) → b < 2 ^ 8 → c < 2 ^ 8 → d < 2 ^ 8 → word a b c d * 2 ^ 16 ≡ parted a b c d
spread a b c d hb hc hd =
    let third : bit_xor (c * 2 ^ 24) (d * 2 ^ 16) ≡ c * 2 ^ 24 + d * 2 ^ 16 = xor_shifted c 24 (d * 2 ^ 16) (omega arith) in
    let second : bit_xor (b * 2 ^ 32) (c * 2 ^ 24 + d * 2 ^ 16) ≡ b * 2 ^ 32 + (c * 2 ^ 24 + d * 2 ^ 16) = xor_shifted b 32 (c * 2 ^ 24 + d * 2 ^ 16) (omega arith) in
    let first : bit_xor (a * 2 ^ 40) (b * 2 ^ 32 + (c * 2 ^ 24 + d * 2 ^ 16)) ≡ a * 2 ^ 40 + (b * 2 ^ 32 + (c * 2 ^ 24 + d * 2 ^ 16)) = xor_shifted a 40 (b * 2 ^ 32 + (c * 2 ^ 24 + d * 2 ^ 16)) (omega arith) in
    let all : word a b c d * 2 ^ 16 ≡ a * 2 ^ 40 + (b * 2 ^ 32 + (c * 2 ^ 24 + d * 2 ^ 16)) = omega arith in
    all ∙ sym first ∙ ap (bit_xor (a * 2 ^ 40)) (sym second ∙ ap (bit_xor (b * 2 ^ 32)) (sym third))

-- the two bytes of the remainder so far meet the first two of the four
mixed : (r hi lo a b c d : ℕ) → r ≡ hi * 2 ^ 8 + lo → lo < 2 ^ 8 → b < 2 ^ 8 → c < 2 ^ 8 → d < 2 ^ 8 → bit_xor (r * 2 ^ 32) (word a b c d * 2 ^ 16) ≡ parted (bit_xor hi a) (bit_xor lo b) c d
mixed r hi lo a b c d parts low hb hc hd =
    let lt : lo * 2 ^ 32 < 2 ^ 40 = omega arith in
    let whole : r * 2 ^ 32 ≡ hi * 2 ^ 40 + lo * 2 ^ 32 = omega arith in
    let places : r * 2 ^ 32 ≡ bit_xor (hi * 2 ^ 40) (lo * 2 ^ 32) = whole ∙ sym (xor_shifted hi 40 (lo * 2 ^ 32) lt) in
    (λ i. bit_xor (places i) (spread a b c d hb hc hd i))
    ∙ xor_middle (hi * 2 ^ 40) (lo * 2 ^ 32) (a * 2 ^ 40) (bit_xor (b * 2 ^ 32) (bit_xor (c * 2 ^ 24) (d * 2 ^ 16)))
    ∙ (λ i. bit_xor (sym (scaled 40 hi a) i) (sym (xor_assoc (lo * 2 ^ 32) (b * 2 ^ 32) (bit_xor (c * 2 ^ 24) (d * 2 ^ 16))) i))
    ∙ ap (λ k. bit_xor (bit_xor hi a * 2 ^ 40) (bit_xor k (bit_xor (c * 2 ^ 24) (d * 2 ^ 16)))) (sym (scaled 32 lo b))

-- what the four tables' entries are together
pub looked_up : (a b c d t u v w : ℕ) → IsRemainder (a * 2 ^ 40) t → IsRemainder (b * 2 ^ 32) u → IsRemainder (c * 2 ^ 24) v → IsRemainder (d * 2 ^ 16) w → IsRemainder (parted a b c d) (bit_xor (bit_xor (bit_xor v w) t) u)
looked_up a b c d t u v w first second third fourth =
    let last = summed (c * 2 ^ 24) (d * 2 ^ 16) v w third fourth in
    let later = summed (b * 2 ^ 32) (bit_xor (c * 2 ^ 24) (d * 2 ^ 16)) u (bit_xor v w) second last in
    let all = summed (a * 2 ^ 40) (bit_xor (b * 2 ^ 32) (bit_xor (c * 2 ^ 24) (d * 2 ^ 16))) t (bit_xor u (bit_xor v w)) first later in
    subst (λ k. IsRemainder (parted a b c d) k) (sym (xor_assoc t u (bit_xor v w)) ∙ xor_comm (bit_xor t u) (bit_xor v w) ∙ sym (xor_assoc (bit_xor v w) t u)) all

split_high : (n a b c d : ℕ) → a < 2 ^ 8 → b < 2 ^ 8 → c < 2 ^ 8 → d < 2 ^ 8 → word (n * 256 + a) b c d * 2 ^ 16 ≡ bit_xor (n * 2 ^ 48) (word a b c d * 2 ^ 16)
split_high n a b c d ha hb hc hd =
    let lt : word a b c d * 2 ^ 16 < 2 ^ 48 = omega arith in
    let e : word (n * 256 + a) b c d * 2 ^ 16 ≡ n * 2 ^ 48 + word a b c d * 2 ^ 16 = omega arith in
    e ∙ sym (xor_shifted n 48 (word a b c d * 2 ^ 16) lt)

-- four bytes more
pub divided_by_four : (n r a b c d hi lo s : ℕ) → IsRemainder (n * 2 ^ 16) r → a < 2 ^ 8 → b < 2 ^ 8 → c < 2 ^ 8 → d < 2 ^ 8 → r ≡ hi * 2 ^ 8 + lo → lo < 2 ^ 8 → IsRemainder (parted (bit_xor hi a) (bit_xor lo b) c d) s → IsRemainder (word (n * 256 + a) b c d * 2 ^ 16) s
divided_by_four n r a b c d hi lo s before ha hb hc hd parts low entries =
    let q = before.1.0 in
    let mix = mixed r hi lo a b c d parts low hb hc hd in
    let split = split_high n a b c d ha hb hc hd in
    let rest : IsRemainder (bit_xor (r * 2 ^ 32) (word a b c d * 2 ^ 16)) s = subst (λ k. IsRemainder k s) (sym mix) entries in
    subst (λ k. IsRemainder k s) (sym split)
    (carried (raised (raised (raised (raised q)))) (n * 2 ^ 48) (r * 2 ^ 32) (word a b c d * 2 ^ 16) s (lifted_by_four q n r before.1.1) rest)

-- the bytes in front of these have the remainder r
pub record IsDividedUpTo (bytes rest : List ℕ) (r : ℕ) : Type 0 where
  pub front : ℕ
  pub whole : fold (λ n b. n * 256 + b) front rest ≡ number_of bytes
  pub remainder : IsRemainder (front * 2 ^ 16) r

pub none_yet : (bytes : List ℕ) → IsDividedUpTo bytes bytes 0
none_yet bytes = record { front = 0; whole = refl; remainder = nothing }

four_read : (xs : List ℕ) (n : ℕ) → 4 ≤ length xs → fold (λ m b. m * 256 + b) n xs ≡ fold (λ m b. m * 256 + b) (word (n * 256 + get_or xs 0 0) (get_or xs 1 0) (get_or xs 2 0) (get_or xs 3 0)) (drop 4 xs)
four_read (a ∷ b ∷ c ∷ d ∷ xs) n h = refl
four_read xs n h = absurd (omega arith)

pub four_done : (bytes xs : List ℕ) (r s : ℕ) → 4 ≤ length xs → IsDividedUpTo bytes xs r → ((n : ℕ) → IsRemainder (n * 2 ^ 16) r → IsRemainder (word (n * 256 + get_or xs 0 0) (get_or xs 1 0) (get_or xs 2 0) (get_or xs 3 0) * 2 ^ 16) s) → IsDividedUpTo bytes (drop 4 xs) s
four_done bytes xs r s h x step = record {
  front = word (x.front * 256 + get_or xs 0 0) (get_or xs 1 0) (get_or xs 2 0) (get_or xs 3 0);
  whole = sym (four_read xs x.front h) ∙ x.whole;
  remainder = step x.front x.remainder;
}

pub one_done : (bytes xs : List ℕ) (i r s : ℕ) → i < length xs → IsDividedUpTo bytes (drop i xs) r → ((n : ℕ) → IsRemainder (n * 2 ^ 16) r → IsRemainder ((n * 256 + get_or xs i 0) * 2 ^ 16) s) → IsDividedUpTo bytes (drop (i + 1) xs) s
one_done bytes xs i r s h x step =
    let more : fold (λ m b. m * 256 + b) x.front (drop i xs) ≡ fold (λ m b. m * 256 + b) (x.front * 256 + get_or xs i 0) (drop (i + 1) xs) = at_drop_more (λ l. fold (λ m b. m * 256 + b) x.front l) xs i 0 h in
    record { front = x.front * 256 + get_or xs i 0; whole = sym more ∙ x.whole; remainder = step x.front x.remainder }

pub all_done : (bytes xs : List ℕ) (i r : ℕ) → length xs ≤ i → IsDividedUpTo bytes (drop i xs) r → IsRemainder (number_of bytes * 2 ^ 16) r
all_done bytes xs i r h x =
    let none : fold (λ m b. m * 256 + b) x.front (drop i xs) ≡ x.front = at_drop_all (λ l. fold (λ m b. m * 256 + b) x.front l) xs i h in
    subst (λ n. IsRemainder (n * 2 ^ 16) r) (sym none ∙ x.whole) x.remainder
