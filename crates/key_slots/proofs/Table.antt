-- The tables' rules, by tests that are computed over whole tables.
use Rattle.std.proofs.Common.{◌≡◌, ℕ, zero, suc, ◌+◌, ◌*◌, ◌<◌, ◌^◌, ◌/◌, ◌%◌, Bool, true, false, ◌&&◌, List, [], ◌∷◌, length, get_or, refl, ap, sym, subst, ◌∙◌, arith, nat_eq, nat_lt}
use Rattle.std.proofs.lemmas.Bool.{eqb-true}
use Rattle.std.proofs.lemmas.Bool.Decides.{nat_tests}
use Rattle.std.specs.Int.Bits.{bit_xor, xor_assoc, xor_zero_r, xor_self}
use Rattle.key_slots.specs.Polynomials.{times, modulus, IsRemainder}
use Rattle.key_slots.specs.declared.crc16.TheConstants.{TABLE, TABLE_24, TABLE_32, TABLE_40}
use Rattle.key_slots.proofs.Division.{IsEntry, divided}

-- the quotient of a polynomial of degree below 24: its coefficients from x^7 down, each in front of those that are found
divide : List ℕ → ℕ → List Bool → List Bool
divide [] a found = found
divide (j ∷ js) a found = elim (nat_eq (a / 2 ^ (16 + j) % 2) 1) [ true ↦ divide js (bit_xor a (modulus * 2 ^ j)) (true ∷ found) | false ↦ divide js a (false ∷ found) ]

quotient : ℕ → List Bool
quotient h = divide (7 ∷ 6 ∷ 5 ∷ 4 ∷ 3 ∷ 2 ∷ 1 ∷ 0 ∷ []) (h * 2 ^ 16) []

entry_ok : ℕ → ℕ → Bool
entry_ok h t = nat_lt t (2 ^ 16) && nat_eq (h * 2 ^ 16) (bit_xor (times (quotient h) modulus) t)

all_ok : ℕ → List ℕ → Bool
all_ok h [] = true
all_ok h (t ∷ ts) = entry_ok h t && all_ok (h + 1) ts

table_ok : all_ok 0 TABLE ≡ true
unfolding divide quotient entry_ok all_ok
table_ok = refl

-- each entry of the second table is what one byte more, 0, makes of the first one's
next_ok : List ℕ → List ℕ → Bool
next_ok [] [] = true
next_ok [] (t ∷ ts) = false
next_ok (s ∷ ss) [] = true
next_ok (s ∷ ss) (t ∷ ts) = entry_ok (s / 2 ^ 8) (bit_xor t ((s % 2 ^ 8) * 2 ^ 8)) && next_ok ss ts

table_24_ok : next_ok TABLE TABLE_24 ≡ true
unfolding divide quotient entry_ok next_ok
table_24_ok = refl

table_32_ok : next_ok TABLE_24 TABLE_32 ≡ true
unfolding divide quotient entry_ok next_ok
table_32_ok = refl

table_40_ok : next_ok TABLE_32 TABLE_40 ≡ true
unfolding divide quotient entry_ok next_ok
table_40_ok = refl

both : (a b : Bool) → (a && b) ≡ true → (a ≡ true) × (b ≡ true)
both true b e = (refl, e)
both false b e = cc

below : (a b : ℕ) → nat_lt a b ≡ true → a < b
below a b e = grind (arith, nat_tests)

entry : (h t : ℕ) → entry_ok h t ≡ true → IsEntry h t
unfolding entry_ok
entry h t e =
    let parts = both (nat_lt t (2 ^ 16)) (nat_eq (h * 2 ^ 16) (bit_xor (times (quotient h) modulus) t)) e in
    (below t (2 ^ 16) parts.0, (quotient h, eqb-true _ _ parts.1))

rule : (h : ℕ) (ts : List ℕ) → all_ok h ts ≡ true → (i d : ℕ) → i < length ts → IsEntry (h + i) (get_or ts i d)
unfolding all_ok
rule h [] e i d lt = absurd (omega arith)
rule h (t ∷ ts) e zero d lt =
    let parts = both (entry_ok h t) (all_ok (h + 1) ts) e in
    let same : h ≡ h + 0 = omega arith in
    subst (λ k. IsEntry k t) same (entry h t parts.0)
rule h (t ∷ ts) e (suc i) d lt =
    let parts = both (entry_ok h t) (all_ok (h + 1) ts) e in
    let same : (h + 1) + i ≡ h + suc i = omega arith in
    subst (λ k. IsEntry k (get_or ts i d)) same (rule (h + 1) ts parts.1 i d (omega arith))

pub table_rule : (i d : ℕ) → i < 2 ^ 8 → IsEntry i (get_or TABLE i d)
table_rule i d lt =
    let same : 0 + i ≡ i = omega arith in
    subst (λ k. IsEntry k (get_or TABLE i d)) same (rule 0 TABLE table_ok i d (omega arith))

next_entry : (n s hi lo t : ℕ) → s ≡ hi * 2 ^ 8 + lo → lo < 2 ^ 8 → IsRemainder (n * 2 ^ 16) s → IsEntry hi (bit_xor t (lo * 2 ^ 8)) → IsRemainder (n * 256 * 2 ^ 16) t
next_entry n s hi lo t parts low before e =
    let at : IsEntry (bit_xor hi 0) (bit_xor t (lo * 2 ^ 8)) = subst (λ h. IsEntry h (bit_xor t (lo * 2 ^ 8))) (sym (xor_zero_r hi)) e in
    let back : bit_xor (bit_xor t (lo * 2 ^ 8)) (lo * 2 ^ 8) ≡ t = xor_assoc t (lo * 2 ^ 8) (lo * 2 ^ 8) ∙ ap (bit_xor t) (xor_self (lo * 2 ^ 8)) ∙ xor_zero_r t in
    let place : (n * 256 + 0) * 2 ^ 16 ≡ n * 256 * 2 ^ 16 = omega arith in
    let after = divided n s 0 hi lo (bit_xor t (lo * 2 ^ 8)) before (omega arith) parts low at in
    subst (λ k. IsRemainder k t) place (subst (λ k. IsRemainder ((n * 256 + 0) * 2 ^ 16) k) back after)

next_rule : (f : ℕ → ℕ) (ss ts : List ℕ) → next_ok ss ts ≡ true → ((i d : ℕ) → i < length ss → IsRemainder (f i * 2 ^ 16) (get_or ss i d)) → (i d : ℕ) → i < length ts → IsRemainder (f i * 256 * 2 ^ 16) (get_or ts i d)
unfolding next_ok
next_rule f [] [] e before i d lt = absurd (omega arith)
next_rule f [] (t ∷ ts) e before i d lt = cc
next_rule f (s ∷ ss) [] e before i d lt = absurd (omega arith)
next_rule f (s ∷ ss) (t ∷ ts) e before zero d lt =
    let parts = both (entry_ok (s / 2 ^ 8) (bit_xor t ((s % 2 ^ 8) * 2 ^ 8))) (next_ok ss ts) e in
    next_entry (f 0) s (s / 2 ^ 8) (s % 2 ^ 8) t (omega arith) (omega arith) (before 0 d (omega arith)) (entry _ _ parts.0)
next_rule f (s ∷ ss) (t ∷ ts) e before (suc i) d lt =
    let parts = both (entry_ok (s / 2 ^ 8) (bit_xor t ((s % 2 ^ 8) * 2 ^ 8))) (next_ok ss ts) e in
    next_rule (λ j. f (suc j)) ss ts parts.1 (λ j c h. before (suc j) c (omega arith)) i d (omega arith)

after_one : (i d : ℕ) → i < 2 ^ 8 → IsRemainder (i * 256 * 2 ^ 16) (get_or TABLE_24 i d)
after_one i d lt = next_rule (λ j. j) TABLE TABLE_24 table_24_ok (λ j c h. table_rule j c (omega arith)) i d (omega arith)

after_two : (i d : ℕ) → i < 2 ^ 8 → IsRemainder (i * 256 * 256 * 2 ^ 16) (get_or TABLE_32 i d)
after_two i d lt = next_rule (λ j. j * 256) TABLE_24 TABLE_32 table_32_ok (λ j c h. after_one j c (omega arith)) i d (omega arith)

after_three : (i d : ℕ) → i < 2 ^ 8 → IsRemainder (i * 256 * 256 * 256 * 2 ^ 16) (get_or TABLE_40 i d)
after_three i d lt = next_rule (λ j. j * 256 * 256) TABLE_32 TABLE_40 table_40_ok (λ j c h. after_two j c (omega arith)) i d (omega arith)

pub table_24_rule : (i d : ℕ) → i < 2 ^ 8 → IsRemainder (i * 2 ^ 24) (get_or TABLE_24 i d)
table_24_rule i d lt =
    let place : i * 256 * 2 ^ 16 ≡ i * 2 ^ 24 = omega arith in
    subst (λ k. IsRemainder k (get_or TABLE_24 i d)) place (after_one i d lt)

pub table_32_rule : (i d : ℕ) → i < 2 ^ 8 → IsRemainder (i * 2 ^ 32) (get_or TABLE_32 i d)
table_32_rule i d lt =
    let place : i * 256 * 256 * 2 ^ 16 ≡ i * 2 ^ 32 = omega arith in
    subst (λ k. IsRemainder k (get_or TABLE_32 i d)) place (after_two i d lt)

pub table_40_rule : (i d : ℕ) → i < 2 ^ 8 → IsRemainder (i * 2 ^ 40) (get_or TABLE_40 i d)
table_40_rule i d lt =
    let place : i * 256 * 256 * 256 * 2 ^ 16 ≡ i * 2 ^ 40 = omega arith in
    subst (λ k. IsRemainder k (get_or TABLE_40 i d)) place (after_three i d lt)
