-- One line is read as its node.
use Rattle.std.proofs.Common.{◌≡◌, ℕ, ◌+◌, ◌^◌, ◌<◌, ◌≤◌, Bool, true, false, cond, not, nat_eq, nat_le, List, []}
use Rattle.std.proofs.Common.{◌∷◌, ◌++◌}
use Rattle.std.proofs.Common.{Some, codes, decimal, append_assoc, refl, sym, ap, ◌∙◌, arith}
use Rattle.std.specs.List.{flat_map, list_all}
use Rattle.std.proofs.lemmas.Bool.{and_from, and_parts}
use Rattle.byte_texts.specs.Decimals.{wide_number}
use Rattle.byte_texts.specs.Parts.{parts}
use Rattle.key_slots.specs.Ranges.{owner_ranges}
use Rattle.slot_marks.specs.Tables.{Table}
use Rattle.cluster_node.specs.Redirections.{id_of, ip}
use Rattle.cluster_reports.specs.NodeLines.{address_words, bus_of, line_marks, node_line, role_words, word_of}
use Rattle.listed_nodes.specs.Addresses.{address_in}
use Rattle.listed_nodes.specs.Names.{if_there, name_in}
use Rattle.listed_nodes.specs.Nodes.{line_in, line_of, line_with}
use Rattle.listed_nodes.specs.SlotWords.{slot_words_in}
use Rattle.listed_nodes.specs.declared.node_line.NodeLine.{NodeLine}
use Rattle.listed_nodes.specs.declared.slot_word.SlotWord.{SlotWord}
use Rattle.told_nodes.specs.Tables.{IsToldFrom}
use Rattle.told_nodes.specs.ToldLines.{line_told, marks_told, ranges_told}
use Rattle.told_nodes.proofs.Addressed.{address_read}
use Rattle.told_nodes.proofs.Numerals.{digits_lack, epoch_read, id_lacks, name_read}
use Rattle.told_nodes.proofs.Spelled.{Spells, is_plain, marks_spelled, plain_both, ranges_spelled, spells_both}
use Rattle.told_nodes.proofs.Words.{all_appended, all_weaker, each_behind, lacks, parts_behind}

-- ---- the words of a line

abbrev address_word : (port : ℕ) (bus : List ℕ) → List ℕ
address_word port bus = codes "127.0.0.1:" ++ (decimal port ++ (codes "@" ++ bus))

abbrev flag_word : (is_me : Bool) → List ℕ
flag_word b = cond b (codes "myself,master") (codes "master")

-- the words behind the ID
abbrev words_of : (port : ℕ) (bus : List ℕ) (is_me : Bool) (epoch : List ℕ) → List (List ℕ) → List (List ℕ)
words_of port bus is_me epoch ws =
    address_word port bus
    ∷ (flag_word is_me
    ∷ (codes "-" ∷ (codes "0" ∷ (codes "0" ∷ (epoch ∷ (codes "connected" ∷ ws))))))

flags_begin : (b : Bool) → cond b (codes " myself,master") (codes " master") ≡ 32 ∷ flag_word b
flags_begin true = refl
flags_begin false = refl

shape : (id d b f e t : List ℕ)
    → (id ++ (codes " 127.0.0.1:" ++ (d ++ (codes "@" ++ b))))
    ++ (((32 ∷ f) ++ (codes " - 0 0 " ++ (e ++ codes " connected"))) ++ (t ++ codes "\n"))
    ≡ (id ++ (32 ∷ ((codes "127.0.0.1:" ++ (d ++ (codes "@" ++ b)))
    ++ (32 ∷ (f ++ (codes " - 0 0 " ++ (e ++ (codes " connected" ++ t)))))))) ++ codes "\n"
shape id d b f e t = simp append_assoc

line_shape : (port : ℕ) (t : Table) (n : ℕ) (ws : List (List ℕ))
    → flat_map (word_of n) (owner_ranges t.owners) ++ line_marks t n ≡ each_behind 32 ws
    → node_line port t n
    ≡ (id_of n
    ++ each_behind 32 (words_of (port + n) (decimal (bus_of (port + n))) (nat_eq n t.me) (decimal (n + 1)) ws))
    ++ 10 ∷ []
line_shape port t n ws is =
    let a = address_words (port + n) n in
    let role = role_words t.me n in
    let r = flat_map (word_of n) (owner_ranges t.owners) in
    let m = line_marks t n in
    let b = decimal (bus_of (port + n)) in
    let e = decimal (n + 1) in
    ap (λ u. a ++ (role ++ u)) (sym (append_assoc r m (codes "\n")) ∙ ap (λ u. u ++ codes "\n") is)
    ∙ ap (λ f. a ++ ((f ++ (codes " - 0 0 " ++ (e ++ codes " connected"))) ++ (each_behind 32 ws ++ codes "\n")))
    (flags_begin (nat_eq n t.me))
    ∙ shape (id_of n) (decimal (port + n)) b (flag_word (nat_eq n t.me)) e (each_behind 32 ws)

-- ---- they are words

plain_digits : (n : ℕ) → n < 2 ^ 64 → is_plain (decimal n) ≡ true
plain_digits n lt =
    and_from (lacks 32 (decimal n)) (lacks 10 (decimal n)) (digits_lack 32 n refl lt) (digits_lack 10 n refl lt)

plain_flags : (b : Bool) → is_plain (flag_word b) ≡ true
plain_flags true = refl
plain_flags false = refl

plain_address : (port : ℕ) (bus : List ℕ) → port < 2 ^ 64 → is_plain bus ≡ true
    → is_plain (address_word port bus) ≡ true
plain_address port bus lt plain =
    plain_both (codes "127.0.0.1:") (decimal port ++ (codes "@" ++ bus)) refl
    (plain_both (decimal port) (codes "@" ++ bus) (plain_digits port lt) (plain_both (codes "@") bus refl plain))

plain_words : (port : ℕ) (bus : List ℕ) (is_me : Bool) (epoch : List ℕ) (ws : List (List ℕ)) → port < 2 ^ 64
    → is_plain bus ≡ true → is_plain epoch ≡ true → list_all is_plain ws ≡ true
    → list_all is_plain (words_of port bus is_me epoch ws) ≡ true
plain_words port bus is_me epoch ws lt b e all =
    and_from (is_plain (address_word port bus)) (list_all is_plain (flag_word is_me
    ∷ (codes "-" ∷ (codes "0" ∷ (codes "0" ∷ (epoch ∷ (codes "connected" ∷ ws)))))))
    (plain_address port bus lt b)
    (and_from (is_plain (flag_word is_me)) (list_all is_plain
    (codes "-" ∷ (codes "0" ∷ (codes "0" ∷ (epoch ∷ (codes "connected" ∷ ws)))))) (plain_flags is_me)
    (and_from (is_plain epoch) (list_all is_plain (codes "connected" ∷ ws)) e all))

behind_lack : (ws : List (List ℕ)) → list_all is_plain ws ≡ true → lacks 10 (each_behind 32 ws) ≡ true
behind_lack [] all = refl
behind_lack (w ∷ ws) all =
    let both = and_parts (is_plain w) (list_all is_plain ws) all in
    let word = and_parts (lacks 32 w) (lacks 10 w) both.0 in
    all_appended (λ b. not (nat_eq b 10)) w (each_behind 32 ws) word.1 (behind_lack ws both.1)

bus-le : (b : Bool) (port : ℕ) → port < 65536 → cond b (port + 10000) 0 < 2 ^ 64
bus-le true port lt = omega arith
bus-le false port lt = omega arith

-- ---- they are read

flags_say : (b : Bool) (name : List ℕ) (address : List ℕ × ℕ) (epoch : ℕ) (slots : List SlotWord)
    → line_with name address epoch slots (flag_word b) (codes "connected")
    ≡ record {
      name = name;
      host = address.0;
      port = address.1;
      is_myself = b;
      is_master = true;
      is_failing = false;
      has_failed = false;
      is_linked = true;
      epoch = epoch;
      slots = slots;
    }
flags_say true name address epoch slots = refl
flags_say false name address epoch slots = refl

fields_read : (name address flags epoch link : List ℕ) (ws : List (List ℕ)) (name' : List ℕ) (a : List ℕ × ℕ) (e : ℕ)
    (slots : List SlotWord) → name_in name ≡ Some name' → address_in address ≡ Some a → wide_number epoch ≡ Some e
    → slot_words_in ws ≡ Some slots
    → line_of name address flags epoch link ws ≡ Some (line_with name' a e slots flags link)
fields_read name address flags epoch link ws name' a e slots f g h k =
    ap (λ o. if_there o (λ n.
    if_there (address_in address) (λ b.
    if_there (wide_number epoch) (λ c.
    if_there (slot_words_in ws) (λ ss. Some (line_with n b c ss flags link)))))) f
    ∙ ap (λ o. if_there o (λ b.
    if_there (wide_number epoch) (λ c.
    if_there (slot_words_in ws) (λ ss. Some (line_with name' b c ss flags link))))) g
    ∙ ap (λ o. if_there o (λ c. if_there (slot_words_in ws) (λ ss. Some (line_with name' a c ss flags link)))) h
    ∙ ap (λ o. if_there o (λ ss. Some (line_with name' a e ss flags link))) k

-- a line that ends with a line feed, has none before, and is read as this
pub record IsLine (text : List ℕ) (x : NodeLine) : Type 0 where
  pub line : List ℕ
  pub is : text ≡ line ++ 10 ∷ []
  pub whole : lacks 10 line ≡ true
  pub read : line_in (parts 32 line) ≡ Some x

pub line_read : (port : ℕ) (t : Table) (n : ℕ) → IsToldFrom port t → n < t.nodes
    → IsLine (node_line port t n) (line_told port t n)
line_read port t n told lt = record {
  line = id_of n ++ each_behind 32 words;
  is = line_shape port t n spelled.words spelled.is;
  whole = all_appended (λ b. not (nat_eq b 10)) (id_of n) (each_behind 32 words) (id_lacks 10 n refl few)
      (behind_lack words plain);
  read = ap line_in (parts_behind 32 (id_of n) words (id_lacks 32 n refl few)
      (all_weaker is_plain (lacks 32) (λ w h. (and_parts (lacks 32 w) (lacks 10 w) h).0) words plain))
      ∙ fields_read (id_of n) (address_word (port + n) bus) (flag_word (nat_eq n t.me)) (decimal (n + 1))
      (codes "connected") spelled.words (id_of n) (ip, port + n) (n + 1) slots (name_read n few)
      (address_read (port + n) bus ports) (epoch_read (n + 1) (omega arith)) spelled.read
      ∙ ap (λ (x : NodeLine). Some x) (flags_say (nat_eq n t.me) (id_of n) (ip, port + n) (n + 1) slots);
}
  where
    few : n < 256
    few = let m : t.nodes ≤ 255 = told.owners.most in omega arith

    ports : port + n < 65536
    ports = let p : port + t.nodes ≤ 65536 = told.ports in omega arith

    slots : List SlotWord
    slots = ranges_told t.owners n ++ marks_told t n

    bus : List ℕ
    bus = decimal (bus_of (port + n))

    spelled : Spells (flat_map (word_of n) (owner_ranges t.owners) ++ line_marks t n) slots
    spelled = spells_both (flat_map (word_of n) (owner_ranges t.owners)) (line_marks t n) (ranges_told t.owners n)
        (marks_told t n) (ranges_spelled t.owners n told.owners.width)
        (marks_spelled t n told.owners.most told.migrating told.importing)

    words : List (List ℕ)
    words = words_of (port + n) bus (nat_eq n t.me) (decimal (n + 1)) spelled.words

    plain : list_all is_plain words ≡ true
    plain = plain_words (port + n) bus (nat_eq n t.me) (decimal (n + 1)) spelled.words (omega (arith, ports))
        (plain_digits (bus_of (port + n)) (bus-le (nat_le (port + n) 55535) (port + n) ports))
        (plain_digits (n + 1) (omega (arith, few))) spelled.plain
