-- What stands in a line: decimal numbers and IDs.
use Rattle.std.proofs.Common.{◌≡◌, ℕ, ◌+◌, ◌/◌, ◌%◌, ◌^◌, ◌<◌, true, false, cond, nat_lt}
use Rattle.std.proofs.Common.{[], ◌∷◌, ◌++◌, None, Some, decimal, refl, ap, ◌∙◌, arith}
use Rattle.std.specs.List.{list_all}
use Rattle.std.specs.Prelude.{codes}
use Rattle.std.proofs.lemmas.Bool.{cases_lt, lt-ltb, le-ltb, le-leb}
use Rattle.std.proofs.Common.{inl, inr}
use Rattle.byte_texts.specs.Decimals.{is_digit, number_in, wide_number}
use Rattle.byte_texts.specs.Hexadecimal.{hex_digit}
use Rattle.byte_texts.proofs.Numerals.{are_digits, read_number}
use Rattle.key_slots.specs.Numbers.{slot_in}
use Rattle.cluster_node.specs.Redirections.{id_of}
use Rattle.listed_nodes.specs.Names.{closed_name_in, is_hex, is_name, name_in}
use Rattle.told_nodes.proofs.Words.{lacks, others_lack}

-- ---- decimal numbers

pub digits_lack : (byte n : ℕ) → is_digit byte ≡ false → n < 2 ^ 64 → lacks byte (decimal n) ≡ true
digits_lack byte n none lt = others_lack is_digit byte none (decimal n) (are_digits n (omega (arith, lt)))

pub slot_read : (s : ℕ) → s < 16384 → slot_in (decimal s) ≡ Some s
slot_read s lt = read_number 0 16383 s (omega arith) (omega arith) (omega arith)

pub port_read : (port : ℕ) → port < 65536 → number_in 0 65535 (decimal port) ≡ Some port
port_read port lt = read_number 0 65535 port (omega arith) (omega arith) (omega arith)

pub epoch_read : (epoch : ℕ) → epoch < 2 ^ 64 → wide_number (decimal epoch) ≡ Some epoch
epoch_read epoch lt = read_number 0 18446744073709551615 epoch lt (omega arith) (omega arith)

-- ---- IDs

hex_is : (n : ℕ) → n < 16 → is_hex (hex_digit n) ≡ true
hex_is n lt = elim (cases_lt n 10) [
  | inl low ↦
      let test : nat_lt n 10 ≡ true = lt-ltb n 10 low in
      rw (test, le-leb 48 (48 + n) (omega arith), lt-ltb (48 + n) 58 (omega arith)) refl
  | inr high ↦
      let test : nat_lt n 10 ≡ false = le-ltb n 10 high in
      rw (
        test,
        le-leb 48 (87 + n) (omega arith),
        le-ltb (87 + n) 58 (omega arith),
        le-leb 97 (87 + n) (omega arith),
        lt-ltb (87 + n) 103 (omega arith),
      ) refl
]

named : (first second : ℕ) → is_hex first ≡ true → is_hex second ≡ true
    → is_name (codes "00000000000000000000000000000000000000" ++ first ∷ second ∷ []) ≡ true
named first second f g = rw (f, g) refl

pub id_named : (n : ℕ) → n < 256 → is_name (id_of n) ≡ true
id_named n lt =
    named (hex_digit (n / 16)) (hex_digit (n % 16)) (hex_is (n / 16) (omega arith)) (hex_is (n % 16) (omega arith))

all_hex : (first second : ℕ) → is_hex first ≡ true → is_hex second ≡ true
    → list_all is_hex (codes "00000000000000000000000000000000000000" ++ first ∷ second ∷ []) ≡ true
all_hex first second f g = rw (f, g) refl

pub id_lacks : (byte n : ℕ) → is_hex byte ≡ false → n < 256 → lacks byte (id_of n) ≡ true
id_lacks byte n none lt =
    others_lack is_hex byte none (id_of n)
    (all_hex (hex_digit (n / 16)) (hex_digit (n % 16)) (hex_is (n / 16) (omega arith)) (hex_is (n % 16) (omega arith)))

pub name_read : (n : ℕ) → n < 256 → name_in (id_of n) ≡ Some (id_of n)
name_read n lt = ap (λ b. cond b (Some (id_of n)) None) (id_named n lt)

closed : (first second : ℕ)
    → closed_name_in ((codes "00000000000000000000000000000000000000" ++ first ∷ second ∷ []) ++ 93 ∷ [])
    ≡ name_in (codes "00000000000000000000000000000000000000" ++ first ∷ second ∷ [])
closed first second = refl

pub closed_read : (n : ℕ) → n < 256 → closed_name_in (id_of n ++ 93 ∷ []) ≡ Some (id_of n)
closed_read n lt = closed (hex_digit (n / 16)) (hex_digit (n % 16)) ∙ name_read n lt
