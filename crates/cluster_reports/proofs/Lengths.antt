-- How long the answers are: a text of 1 MiB has room for each.
use Rattle.std.proofs.Common.{◌≡◌, ◌≢◌, ℕ, zero, suc, ◌+◌, ◌*◌, ◌-◌, ◌<◌, ◌≤◌, Bool, true, false, cond, List, []}
use Rattle.std.proofs.Common.{◌∷◌, ◌++◌, ◌/◌, ◌%◌}
use Rattle.std.proofs.Common.{Option, None, Some, length, decimal, nat_eq, refl, sym, ap, arith, lit≤}
use Rattle.std.proofs.Common.{inl, inr}
use Rattle.std.proofs.lemmas.Bool.{cases_lt}
use Rattle.std.proofs.lemmas.Bool.Decides.{nat_tests}
use Rattle.std.proofs.lemmas.Fmt.{length-decimal-le}
use Rattle.std.proofs.lemmas.List.{length-append, length-replicate}
use Rattle.std.specs.List.{flat_map}
use Rattle.std.specs.Prelude.{codes, nat_le, replicate}
use Rattle.std.specs.FinMap as finite
use Rattle.key_slots.specs.declared.slot_range.SlotRange.{SlotRange}
use Rattle.key_slots.specs.Ranges.{Follow, owner_ranges}
use Rattle.key_slots.proofs.Longest.{ranges_are_longest}
use Rattle.slot_marks.specs.Tables.{Table}
use Rattle.byte_texts.specs.Hexadecimal.{hex_digit}
use Rattle.cluster_node.specs.Redirections.{id_of}
use Rattle.cluster_reports.specs.NodeLines.{address_words, bus_of, flags_of, line_marks, mark_of, mark_word}
use Rattle.cluster_reports.specs.NodeLines.{marks_text, node_line, nodes_text, range_word, role_words, slot_mark}
use Rattle.cluster_reports.specs.NodeLines.{word_of}
use Rattle.cluster_reports.specs.Numbered.{below}
use Rattle.cluster_reports.specs.StateLines.{count_lines, epoch_lines, first_lines, last_lines, line}
use Rattle.cluster_reports.specs.StateLines.{owners_below, owns, state_text}

-- the sum of what g gives of the numbers below n
abbrev pub total : (ℕ → ℕ) → ℕ → ℕ
total g zero = 0
total g (suc n) = total g n + g n

pub length-below : {A : Type 0} (f : ℕ → List A) (g : ℕ → ℕ) (n : ℕ) → ((i : ℕ) → i < n → length (f i) ≤ g i)
    → length (below f n) ≤ total g n
unfolding below
length-below f g zero each = omega arith
length-below f g (suc n) each =
    let last : length (f n) ≤ g n = each n (omega arith) in
    let before : length (below f n) ≤ total g n =
    length-below f g n (λ i lt. let less : i < suc n = omega arith in each i less) in
    let whole : length (below f n ++ f n) ≡ length (below f n) + length (f n) = length-append (below f n) (f n) in
    omega (arith, last, before, whole)

pub total-plus : (a b : ℕ → ℕ) (n : ℕ) → total (λ i. a i + b i) n ≡ total a n + total b n
total-plus a b zero = refl
total-plus a b (suc n) = omega (arith, total-plus a b n)

pub total-le : (a b : ℕ → ℕ) (n : ℕ) → ((i : ℕ) → a i ≤ b i) → total a n ≤ total b n
total-le a b zero each = omega arith
total-le a b (suc n) each = omega (arith, total-le a b n each, each n)

pub total-none : (n : ℕ) → total (λ i. 0) n ≡ 0
total-none zero = refl
total-none (suc n) = omega (arith, total-none n)

same_number : (a b : ℕ) → nat_eq a b ≡ true → a ≡ b
same_number a b e = grind (arith, nat_tests)

other_number : (a b : ℕ) → nat_eq a b ≡ false → a ≢ b
other_number a b e = grind (arith, nat_tests)

unequal : (a b : ℕ) → a ≢ b → nat_eq a b ≡ false
unequal a b h = grind (arith, nat_tests)

below_other : (a b : ℕ) → a ≤ b → a ≢ b → a < b
below_other a b le other = elim (cases_lt a b) [
  | inl lt ↦ lt
  | inr ge ↦ let same : a ≡ b = omega arith in absurd (other same)
]

choice_le : (b : Bool) (xs : List ℕ) (k : ℕ) → length xs ≤ k → length (cond b xs []) ≤ k
choice_le true xs k le = le
choice_le false xs k le = omega arith

-- only the number m gives anything
pub total_alone : (g : ℕ → ℕ) (m k : ℕ) → ((i : ℕ) → i ≢ m → g i ≡ 0) → g m ≤ k → (n : ℕ)
    → (total g n ≤ k) × (n ≤ m → total g n ≡ 0)
total_alone g m k others mine zero = (omega arith, λ h. refl)
total_alone g m k others mine (suc n) =
    let before = total_alone g m k others mine n in
    elim (nat_eq n m) as (λ b. nat_eq n m ≡ b → (total g n + g n ≤ k) × (suc n ≤ m → total g n + g n ≡ 0)) [
      | true ↦ λ e.
          let same : n ≡ m = same_number n m e in
          let none : total g n ≡ 0 = before.1 (omega arith) in
          let own : g n ≡ g m = ap g same in
          (omega (arith, none, own, mine), λ h. absurd (omega arith))
      | false ↦ λ e.
          let none : g n ≡ 0 = others n (other_number n m e) in
          (omega (arith, none, before.0), λ h. let less : n ≤ m = omega arith in omega (arith, none, before.1 less))
    ] refl

-- ---- ranges

short_number : (n : ℕ) → n < 100000 → length (decimal n) ≤ 5
short_number n lt = length-decimal-le 5 n (omega arith) lt (omega arith)

pub length-range_word : (r : SlotRange) → r.first ≤ r.last → r.last < 16384
    → length (range_word r) ≤ 6 * (r.last + 1 - r.first)
length-range_word r le lt =
    let first : length (decimal r.first) ≤ 5 = short_number r.first (omega arith) in
    let last : length (decimal r.last) ≤ 5 = short_number r.last (omega arith) in
    elim (nat_eq r.first r.last) as (λ b. nat_eq r.first r.last ≡ b
    → length (codes " " ++ (decimal r.first ++ cond b [] (codes "-" ++ decimal r.last)))
    ≤ 6 * (r.last + 1 - r.first)) [
      | true ↦ λ e.
          let same : r.first ≡ r.last = same_number r.first r.last e in
          let whole = length-append (decimal r.first) [] in
          omega (arith, first, whole)
      | false ↦ λ e.
          let other : r.first ≡ r.last → ⊥ = other_number r.first r.last e in
          let less : r.first < r.last = below_other r.first r.last le other in
          let whole : length (decimal r.first ++ codes "-" ++ decimal r.last)
          ≡ length (decimal r.first ++ codes "-") + length (decimal r.last)
          = length-append (decimal r.first ++ codes "-") (decimal r.last) in
          let inner : length (decimal r.first ++ (codes "-" ++ decimal r.last))
          ≡ length (decimal r.first) + length (codes "-" ++ decimal r.last)
          = length-append (decimal r.first) (codes "-" ++ decimal r.last) in
          omega (arith, first, last, inner)
    ] refl

other_word : (r : SlotRange) (i : ℕ) → i ≢ r.owner → length (word_of i r) ≡ 0
other_word r i other = ap (λ b. length (cond b (range_word r) [])) (unequal r.owner i (λ e. other (sym e)))

length-word_of : (r : SlotRange) (k : ℕ) → length (range_word r) ≤ k → (n : ℕ)
    → total (λ i. length (word_of i r)) n ≤ k
length-word_of r k le n =
    (total_alone (λ i. length (word_of i r)) r.owner k (other_word r)
    (choice_le (nat_eq r.owner r.owner) (range_word r) k le) n).0

pub follow_le : (from end : ℕ) (rs : List SlotRange) → Follow from end rs → from ≤ end
follow_le from end [] h = omega (arith, h)
follow_le from end (r ∷ rs) h = omega (arith, h.0, h.1, follow_le (r.last + 1) end rs h.3)

-- each slot of the ranges has room for six bytes
pub words_total : (n from end : ℕ) (rs : List SlotRange) → end ≤ 16384 → Follow from end rs
    → total (λ i. length (flat_map (word_of i) rs)) n ≤ 6 * (end - from)
words_total n from end [] most h = omega (arith, total-none n)
words_total n from end (r ∷ rs) most h =
    let left : r.last + 1 ≤ end = follow_le (r.last + 1) end rs h.3 in
    let one : total (λ i. length (word_of i r)) n ≤ 6 * (r.last + 1 - r.first) =
    length-word_of r (6 * (r.last + 1 - r.first)) (length-range_word r h.1 (omega arith)) n in
    let rest : total (λ i. length (flat_map (word_of i) rs)) n ≤ 6 * (end - (r.last + 1)) =
    words_total n (r.last + 1) end rs most h.3 in
    let parts : total (λ i. length (word_of i r ++ flat_map (word_of i) rs)) n
    ≤ total (λ i. length (word_of i r) + length (flat_map (word_of i) rs)) n =
    total-le (λ i. length (word_of i r ++ flat_map (word_of i) rs))
    (λ i. length (word_of i r) + length (flat_map (word_of i) rs)) n
    (λ i. let e = length-append (word_of i r) (flat_map (word_of i) rs) in omega (arith, e)) in
    let sums = total-plus (λ i. length (word_of i r)) (λ i. length (flat_map (word_of i) rs)) n in
    let first : r.first ≡ from = h.0 in
    let within : r.first ≤ r.last = h.1 in
    omega (arith, left, one, rest, parts, sums, first, within)

-- ---- marks

length-digits : (digit first second : ℕ) → length (replicate 38 digit ++ first ∷ second ∷ []) ≡ 40
length-digits digit first second =
    let before : length (replicate 38 digit) ≡ 38 = length-replicate 38 digit in
    let whole = length-append (replicate 38 digit) (first ∷ second ∷ []) in
    omega (arith, before, whole)

length-id : (n : ℕ) → length (id_of n) ≡ 40
length-id n = length-digits 48 (hex_digit (n / 16)) (hex_digit (n % 16))

length-mark_word : (s m : ℕ) (arrow : List ℕ) → s < 16384 → length arrow ≡ 3 → length (mark_word s arrow m) ≤ 51
length-mark_word s m arrow lt three =
    let digits : length (decimal s) ≤ 5 = short_number s (omega arith) in
    let one = length-append (decimal s) (arrow ++ (id_of m ++ codes "]")) in
    let two = length-append arrow (id_of m ++ codes "]") in
    let four = length-append (id_of m) (codes "]") in
    omega (arith, digits, one, two, three, four, length-id m)

length-mark_of : (s : ℕ) (a b : Option ℕ) → s < 16384 → length (mark_of s a b) ≤ 51
length-mark_of s (Some m) b lt = length-mark_word s m (codes "->-") lt refl
length-mark_of s None (Some m) lt = length-mark_word s m (codes "-<-") lt refl
length-mark_of s None None lt = omega arith

total-marks : (n : ℕ) → total (λ i. 51) n ≡ 51 * n
total-marks zero = refl
total-marks (suc n) = omega (arith, total-marks n)

length-marks : (f : ℕ → List ℕ) (n : ℕ) → ((i : ℕ) → i < n → length (f i) ≤ 51) → length (below f n) ≤ 51 * n
length-marks f n each = omega (arith, length-below f (λ i. 51) n each, total-marks n)

pub length-marks_text : (t : Table) → length (marks_text t) ≤ 835584
length-marks_text t =
    let few = length-marks (slot_mark t) 16384
    (λ i lt. length-mark_of i (finite.get t.migrating i) (finite.get t.importing i) lt) in
    omega (arith, few)

other_marks : (t : Table) (i : ℕ) → i ≢ t.me → length (line_marks t i) ≡ 0
other_marks t i other = ap (λ b. length (cond b (marks_text t) [])) (unequal i t.me other)

line_marks_total : (t : Table) (n : ℕ) → total (λ i. length (line_marks t i)) n ≤ 835584
line_marks_total t n =
    (total_alone (λ i. length (line_marks t i)) t.me 835584 (other_marks t)
    (choice_le (nat_eq t.me t.me) (marks_text t) 835584 (length-marks_text t)) n).0

-- ---- lines

length-flags : (b : Bool) → length (cond b (codes " myself,master") (codes " master")) ≤ 14
length-flags true = omega arith
length-flags false = omega arith

bus-le : (b : Bool) (port : ℕ) → port < 65783 → cond b (port + 10000) 0 < 100000
bus-le true port lt = omega arith
bus-le false port lt = omega arith

length-address : (port n : ℕ) → port < 65783 → length (address_words port n) ≤ 62
length-address port n lt =
    let bus = bus_of port in
    let first : length (decimal port) ≤ 5 = short_number port (omega arith) in
    let second : length (decimal bus) ≤ 5 = short_number bus (bus-le (nat_le port 55535) port lt) in
    let rest = codes " 127.0.0.1:" ++ (decimal port ++ (codes "@" ++ decimal bus)) in
    let a = length-append (id_of n) rest in
    let b = length-append (decimal port) (codes "@" ++ decimal bus) in
    omega (arith, first, second, a, b, length-id n)

length-role : (me n : ℕ) → n < 255 → length (role_words me n) ≤ 36
length-role me n few =
    let flags = flags_of me n in
    let number : length (decimal (n + 1)) ≤ 5 = short_number (n + 1) (omega arith) in
    let word : length flags ≤ 14 = length-flags (nat_eq n me) in
    let a = length-append flags (codes " - 0 0 " ++ (decimal (n + 1) ++ codes " connected")) in
    let b = length-append (decimal (n + 1)) (codes " connected") in
    omega (arith, number, word, a, b)

length-node_line : (port : ℕ) (t : Table) (n : ℕ) → port ≤ 65528 → n < 255
    → length (node_line port t n)
    ≤ 99 + (length (flat_map (word_of n) (owner_ranges t.owners)) + length (line_marks t n))
length-node_line port t n most few =
    let words = flat_map (word_of n) (owner_ranges t.owners) in
    let marks = line_marks t n in
    let first = length-address (port + n) n (omega arith) in
    let second = length-role t.me n few in
    let a = length-append (address_words (port + n) n) (role_words t.me n ++ (words ++ (marks ++ codes "\n"))) in
    let b = length-append (role_words t.me n) (words ++ (marks ++ codes "\n")) in
    let c = length-append words (marks ++ codes "\n") in
    let d = length-append marks (codes "\n") in
    omega (arith, first, second, a, b, c, d)

total-heads : (n : ℕ) → total (λ i. 99) n ≡ 99 * n
total-heads zero = refl
total-heads (suc n) = omega (arith, total-heads n)

pub length-nodes_text : (port : ℕ) (t : Table) → port ≤ 65528 → t.nodes ≤ 255 → length t.owners ≡ 16384
    → length (nodes_text port t) ≤ 1048576
unfolding nodes_text
length-nodes_text port t most few width =
    let n = t.nodes in
    let rs = owner_ranges t.owners in
    let words : ℕ → ℕ = λ i. length (flat_map (word_of i) rs) in
    let marks : ℕ → ℕ = λ i. length (line_marks t i) in
    let lines = length-below (node_line port t) (λ i. 99 + (words i + marks i)) n
    (λ i lt. length-node_line port t i most (omega arith)) in
    let one = total-plus (λ i. 99) (λ i. words i + marks i) n in
    let two = total-plus words marks n in
    let heads = total-heads n in
    let ranges : total words n ≤ 6 * (length t.owners - 0) =
    words_total n 0 (length t.owners) rs (omega (arith, width)) (ranges_are_longest t.owners).follow in
    let own = line_marks_total t n in
    omega (arith, lines, one, two, heads, ranges, own, width, few)

-- ---- CLUSTER INFO

length-line : (name : List ℕ) (n : ℕ) → n < 100000 → length (line name n) ≤ length name + 7
unfolding line
length-line name n lt =
    let digits : length (decimal n) ≤ 5 = short_number n lt in
    let a = length-append name (decimal n ++ codes "\r\n") in
    let b = length-append (decimal n) (codes "\r\n") in
    omega (arith, digits, a, b)

owners_below-le : (owners : List ℕ) (n : ℕ) → owners_below owners n ≤ n
owners_below-le owners zero = omega arith
owners_below-le owners (suc n) = omega (arith, owners_below-le owners n, one (owns owners n))
  where
    one : (b : Bool) → cond b 1 0 ≤ 1
    one true = omega arith
    one false = omega arith

length-first_lines : length first_lines ≤ 200
unfolding first_lines
length-first_lines = lit≤ tt

length-last_lines : length last_lines ≤ 200
unfolding last_lines
length-last_lines = lit≤ tt

length-count_lines : (nodes size : ℕ) → nodes < 100000 → size < 100000 → length (count_lines nodes size) ≤ 47
unfolding count_lines
length-count_lines nodes size few less =
    let one = length-line (codes "cluster_known_nodes:") nodes few in
    let two = length-line (codes "cluster_size:") size less in
    let a = length-append (line (codes "cluster_known_nodes:") nodes) (line (codes "cluster_size:") size) in
    omega (arith, one, two, a)

length-epoch_lines : (nodes me : ℕ) → nodes < 100000 → me + 1 < 100000 → length (epoch_lines nodes me) ≤ 53
unfolding epoch_lines
length-epoch_lines nodes me few less =
    let one = length-line (codes "cluster_current_epoch:") nodes few in
    let two = length-line (codes "cluster_my_epoch:") (me + 1) less in
    let a = length-append (line (codes "cluster_current_epoch:") nodes) (line (codes "cluster_my_epoch:") (me + 1)) in
    omega (arith, one, two, a)

pub length-state_text : (t : Table) → t.nodes ≤ 255 → t.me < t.nodes → length (state_text t) ≤ 1048576
unfolding state_text
length-state_text t most named =
    let size = owners_below t.owners t.nodes in
    let few = owners_below-le t.owners t.nodes in
    let one = length-count_lines t.nodes size (omega arith) (omega (arith, few)) in
    let two = length-epoch_lines t.nodes t.me (omega arith) (omega arith) in
    let a = length-append first_lines (count_lines t.nodes size ++ (epoch_lines t.nodes t.me ++ last_lines)) in
    let b = length-append (count_lines t.nodes size) (epoch_lines t.nodes t.me ++ last_lines) in
    let c = length-append (epoch_lines t.nodes t.me) last_lines in
    omega (arith, one, two, a, b, c, length-first_lines, length-last_lines)
