-- Long division gives the remainder.
use Rattle.std.proofs.Common.{◌≡◌, ℕ, suc, ◌+◌, ◌*◌, ◌<◌, ◌≤◌, ◌^◌, ◌/◌, ◌%◌, true, false, cond, List, [], ◌∷◌, fold, get_or, refl, ap, sym, subst, ◌∙◌, arith, nat_lt}
use Rattle.std.specs.List.{AllByRecursion}
use Rattle.std.proofs.lemmas.Bool.Decides.{nat_tests}
use Rattle.std.specs.Int.Bits.{bit_xor, xor_assoc, xor_comm, xor_zero_l, xor_zero_r, xor_self, xor_block, xor_shifted, xor_lt}
use Rattle.key_slots.specs.Polynomials.{times, modulus, IsRemainder, number_of}
use Rattle.key_slots.specs.Polynomials.{reduced, coefficients, remainder}
use Rattle.key_slots.proofs.Division.{doubled, xor_swap}
use Rattle.key_slots.proofs.Unique.{one_remainder}

with_last : (a c : ℕ) → c < 2 → 2 * a + c ≡ bit_xor (2 * a) c
with_last a c h =
    let e : 2 * a ≡ a * 2 ^ 1 = omega arith in
    let f : bit_xor (a * 2 ^ 1) c ≡ a * 2 ^ 1 + c = xor_shifted a 1 c (omega arith) in
    rw e (sym f)

-- the next coefficient goes in at the right
shifted : (n r c t : ℕ) → c < 2 → n ≡ bit_xor t r → 2 * n + c ≡ bit_xor (2 * t) (2 * r + c)
shifted n r c t h e =
    with_last n c h
    ∙ ap (λ m. bit_xor (2 * m) c) e
    ∙ ap (λ m. bit_xor m c) (doubled t r)
    ∙ xor_assoc (2 * t) (2 * r) c
    ∙ ap (bit_xor (2 * t)) (sym (with_last r c h))

-- where both have degree 16, the sum has less
fallen : (m : ℕ) → 2 ^ 16 ≤ m → m < 2 ^ 17 → bit_xor m modulus < 2 ^ 16
fallen m high low =
    let parts : m ≡ 1 * 2 ^ 16 + m % 2 ^ 16 = omega arith in
    let e : bit_xor (1 * 2 ^ 16 + m % 2 ^ 16) (1 * 2 ^ 16 + 0x1021) ≡ bit_xor 1 1 * 2 ^ 16 + bit_xor (m % 2 ^ 16) 0x1021 = xor_block 16 1 1 (m % 2 ^ 16) 0x1021 (omega arith) (omega arith) in
    let f : bit_xor m modulus ≡ bit_xor (1 * 2 ^ 16 + m % 2 ^ 16) (1 * 2 ^ 16 + 0x1021) = ap (λ k. bit_xor k modulus) parts in
    let g : bit_xor (m % 2 ^ 16) 0x1021 < 2 ^ 16 = xor_lt 16 (m % 2 ^ 16) 0x1021 (omega arith) (omega arith) in
    omega (arith, e, f, g)

taken : (a m t : ℕ) → a ≡ bit_xor t m → a ≡ bit_xor (bit_xor modulus t) (bit_xor m modulus)
taken a m t e =
    e ∙ ap (bit_xor t) (sym (xor_zero_r m) ∙ ap (bit_xor m) (sym (xor_self modulus)) ∙ sym (xor_assoc m modulus modulus))
    ∙ sym (xor_assoc t (bit_xor m modulus) modulus)
    ∙ xor_swap t (bit_xor m modulus) modulus
    ∙ ap (λ k. bit_xor k (bit_xor m modulus)) (xor_comm t modulus)

below : (a b : ℕ) → nat_lt a b ≡ true → a < b
below a b e = grind (arith, nat_tests)

not_below : (a b : ℕ) → nat_lt a b ≡ false → b ≤ a
not_below a b e = grind (arith, nat_tests)

pub digit : (n r c : ℕ) → c < 2 → IsRemainder n r → IsRemainder (2 * n + c) (reduced (2 * r + c))
digit n r c h x =
    let q = x.1.0 in
    let m : ℕ = 2 * r + c in
    let e : 2 * n + c ≡ bit_xor (2 * times q modulus) m = shifted n r c (times q modulus) h x.1.1 in
    elim (nat_lt m (2 ^ 16)) as (λ b. nat_lt m (2 ^ 16) ≡ b → IsRemainder (2 * n + c) (cond b m (bit_xor m modulus))) [
      | true ↦ λ is. (below m (2 ^ 16) is, (false ∷ q, e ∙ ap (λ k. bit_xor k m) (sym (xor_zero_l (2 * times q modulus)))))
      | false ↦ λ is.
          let high : 2 ^ 16 ≤ m = not_below m (2 ^ 16) is in
          let small : r < 2 ^ 16 = x.0 in
          (fallen m high (omega arith), (true ∷ q, taken (2 * n + c) m (2 * times q modulus) e))
    ] refl

abbrev pub read : ℕ → List ℕ → ℕ
read n cs = fold (λ m c. 2 * m + c) n cs

pub digits : (cs : List ℕ) → AllByRecursion (λ c. c < 2) cs → (n r : ℕ) → IsRemainder n r → IsRemainder (read n cs) (fold (λ s c. reduced (2 * s + c)) r cs)
digits [] h n r x = x
digits (c ∷ cs) h n r x = digits cs h.1 (2 * n + c) (reduced (2 * r + c)) (digit n r c h.0 x)

bit : (n : ℕ) → n % 2 < 2
bit n = omega arith

pub all_bits : (bs : List ℕ) → AllByRecursion (λ c. c < 2) (coefficients bs)
all_bits [] = (lt, (lt, (lt, (lt, (lt, (lt, (lt, (lt, (lt, (lt, (lt, (lt, (lt, (lt, (lt, (lt, tt))))))))))))))))
  where
    lt : 0 < 2
    lt = omega arith
all_bits (b ∷ bs) = (bit (b / 128), (bit (b / 64), (bit (b / 32), (bit (b / 16), (bit (b / 8), (bit (b / 4), (bit (b / 2), (bit b, all_bits bs))))))))

sixteen : (n : ℕ) → read n (coefficients []) ≡ n * 2 ^ 16
sixteen n = omega arith

eight : (n b : ℕ) → b < 2 ^ 8 → read n (b / 128 % 2 ∷ b / 64 % 2 ∷ b / 32 % 2 ∷ b / 16 % 2 ∷ b / 8 % 2 ∷ b / 4 % 2 ∷ b / 2 % 2 ∷ b % 2 ∷ []) ≡ n * 256 + b
eight n b h = omega arith

pub read-coefficients : (bs : List ℕ) (n : ℕ) → ((i : ℕ) → get_or bs i 0 < 2 ^ 8) → read n (coefficients bs) ≡ fold (λ m b. m * 256 + b) n bs * 2 ^ 16
read-coefficients [] n h = sixteen n
read-coefficients (b ∷ bs) n h = ap (λ m. read m (coefficients bs)) (eight n b (h 0)) ∙ read-coefficients bs (n * 256 + b) (λ i. h (suc i))

pub nothing : IsRemainder 0 0
nothing = (omega arith, ([], refl))

-- any remainder of the text's polynomial is that of the long division
pub long_division : (bs : List ℕ) (r : ℕ) → ((i : ℕ) → get_or bs i 0 < 2 ^ 8) → IsRemainder (number_of bs * 2 ^ 16) r → r ≡ remainder (coefficients bs)
long_division bs r h x =
    one_remainder (number_of bs * 2 ^ 16) r (remainder (coefficients bs)) x
    (subst (λ a. IsRemainder a (remainder (coefficients bs))) (read-coefficients bs 0 h) (digits (coefficients bs) (all_bits bs) 0 0 nothing))
