-- A slot and a node that are written are read as they are, and a text that is read as one of them is it, written.
use Rattle.std.proofs.Common.{◌≡◌, ℕ, ◌-◌, ◌<◌, ◌≤◌, Bool, true, false, cond, ◌&&◌, ◌==◌, List, [], ◌∷◌, Option, Some, None}
use Rattle.std.proofs.Common.{nat_le, refl, ap, ◌∙◌, arith, decimal}
use Rattle.std.proofs.lemmas.Bool.Decides.{nat_tests}
use Rattle.byte_texts.specs.Decimals.{number_in}
use Rattle.byte_texts.proofs.Numerals.{number_back, read_number}
use Rattle.key_slots.specs.Numbers.{node_among, slot_in}

pub read_slot : (n : ℕ) → n < 16384 → slot_in (decimal n) ≡ Some n
read_slot n h = read_number 0 16383 n (omega arith) (omega arith) (omega arith)

pub slot_back : (t : List ℕ) (n : ℕ) → slot_in t ≡ Some n → (t ≡ decimal n) × (n < 16384)
slot_back t n h = let b = number_back 0 16383 t n (omega arith) h in (b.0, omega arith)

pub read_node : (nodes n : ℕ) → nodes ≤ 255 → n < nodes → node_among nodes (110 ∷ decimal n) ≡ Some n
read_node nodes n most h = read_number 0 (nodes - 1) n (omega arith) (omega arith) (omega arith)

kept : (b : Bool) (o : Option ℕ) (n : ℕ) → cond b o None ≡ Some n → (b ≡ true) × (o ≡ Some n)
kept true o n h = (refl, h)
kept false o n h = cc

same : (a b : ℕ) → (a == b) ≡ true → a ≡ b
same a b h = grind (arith, nat_tests)

pub node_back : (nodes : ℕ) (t : List ℕ) (n : ℕ) → 1 ≤ nodes → nodes ≤ 255 → node_among nodes t ≡ Some n
    → (t ≡ 110 ∷ decimal n) × (n < nodes)
node_back nodes [] n some most h = cc
node_back nodes (b ∷ t) n some most h =
    let k = kept (b == 110) (number_in 0 (nodes - 1) t) n h in
    let w = number_back 0 (nodes - 1) t n (omega arith) k.1 in
    let below : n ≤ nodes - 1 = w.2 in
    (ap (λ a. a ∷ t) (same b 110 k.0) ∙ ap (λ d. 110 ∷ d) w.0, omega arith)

-- ---- tests

pub both : (a b : Bool) → (a && b) ≡ true → (a ≡ true) × (b ≡ true)
both true b h = (refl, h)
both false b h = cc

pub some_test : {A : Type 0} (b : Bool) (v n : A) → cond b (Some v) None ≡ Some n → b ≡ true
some_test true v n h = refl
some_test false v n h = cc

pub some_value : {A : Type 0} (b : Bool) (v n : A) → cond b (Some v) None ≡ Some n → v ≡ n
some_value true v n h = cc
some_value false v n h = cc

pub from_most : (a b : ℕ) → nat_le a b ≡ true → a ≤ b
from_most a b h = grind (arith, nat_tests)
