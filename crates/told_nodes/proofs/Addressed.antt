-- The address of a line is read.
use Rattle.std.proofs.Common.{◌≡◌, ℕ, ◌<◌, true, false, not, nat_eq}
use Rattle.std.proofs.Common.{List, [], ◌∷◌, ◌++◌, None, Some, codes, decimal}
use Rattle.std.proofs.Common.{append_assoc, refl, sym, ap, ◌∙◌, arith}
use Rattle.std.proofs.lemmas.Bool.{and_parts, not-true}
use Rattle.cluster_node.specs.Redirections.{ip}
use Rattle.listed_nodes.specs.Addresses.{address_in, endpoint_in, endpoint_of, split_last}
use Rattle.listed_nodes.specs.Names.{if_there}
use Rattle.told_nodes.proofs.Numerals.{digits_lack, port_read}
use Rattle.told_nodes.proofs.Words.{all_appended, cut_once, lacks}

-- no such byte, no last one
not_cut : (byte : ℕ) (t : List ℕ) → lacks byte t ≡ true → split_last byte t ≡ None
not_cut byte [] h = refl
not_cut byte (b ∷ t) h =
    let both = and_parts (not (nat_eq b byte)) (lacks byte t) h in
    let other : nat_eq b byte ≡ false = not-true (nat_eq b byte) both.0 in
    rw (not_cut byte t both.1, other) refl

ends_in : (t : List ℕ) → split_last 58 t ≡ None → endpoint_in (codes "127.0.0.1:" ++ t) ≡ endpoint_of ip t
ends_in t none = rw none refl

endpoint_read : (port : ℕ) → port < 65536 → endpoint_in (codes "127.0.0.1:" ++ decimal port) ≡ Some (ip, port)
endpoint_read port lt =
    ends_in (decimal port) (not_cut 58 (decimal port) (digits_lack 58 port refl (omega arith)))
    ∙ ap (λ o. if_there o (λ p. Some (ip, p))) (port_read port lt)

pub address_read : (port : ℕ) (bus : List ℕ) → port < 65536
    → address_in (codes "127.0.0.1:" ++ (decimal port ++ (codes "@" ++ bus))) ≡ Some (ip, port)
address_read port bus lt =
    let front : lacks 64 (codes "127.0.0.1:" ++ decimal port) ≡ true =
    all_appended (λ b. not (nat_eq b 64)) (codes "127.0.0.1:") (decimal port) refl
    (digits_lack 64 port refl (omega arith)) in
    ap address_in (sym (append_assoc (codes "127.0.0.1:") (decimal port) (64 ∷ bus)))
    ∙ ap (λ o. if_there o (λ p. endpoint_in p.0)) (cut_once 64 (codes "127.0.0.1:" ++ decimal port) bus front)
    ∙ endpoint_read port lt
