-- Words behind spaces that are read as slots and marks.
use Rattle.std.proofs.Common.{◌≡◌, ◌≢◌, ℕ, zero, suc, ◌+◌, ◌<◌, ◌≤◌, Bool, true, false, cond, not, ◌&&◌, nat_eq, nat_lt}
use Rattle.std.proofs.Common.{List, [], ◌∷◌, ◌++◌, Option, None, Some, IfSome, codes, decimal, filter, length, map}
use Rattle.std.proofs.Common.{append-nil, refl, sym, ap, ◌∙◌, subst, arith}
use Rattle.std.specs.FinMap as finite
use Rattle.std.specs.List.{flat_map, list_all}
use Rattle.std.proofs.lemmas.Bool.{and_from, and_parts, eqb-true, eqb-false, lt-ltb}
use Rattle.byte_texts.specs.Parts.{parts}
use Rattle.key_slots.specs.Numbers.{slot_in}
use Rattle.key_slots.specs.Ranges.{Follow, owner_ranges}
use Rattle.key_slots.specs.declared.slot_range.SlotRange.{SlotRange}
use Rattle.key_slots.proofs.Longest.{ranges_are_longest}
use Rattle.slot_marks.specs.Tables.{Table}
use Rattle.cluster_node.specs.Redirections.{id_of}
use Rattle.cluster_reports.specs.NodeLines.{line_marks, mark_of, mark_word, marks_text, range_word, slot_mark, word_of}
use Rattle.cluster_reports.specs.Numbered.{below}
use Rattle.cluster_reports.proofs.Lengths.{follow_le}
use Rattle.listed_nodes.specs.Names.{if_there}
use Rattle.listed_nodes.specs.SlotWords.{slot_word_in, slot_words_in}
use Rattle.listed_nodes.specs.declared.slot_word.SlotWord.{SlotWord}
use Rattle.listed_nodes.specs.declared.slot_word.SlotWord.TheVariants.{Slots, Migrating, Importing}
use Rattle.told_nodes.specs.Tables.{NameNodes}
use Rattle.told_nodes.specs.ToldLines.{mark_told, marks_told, ranges_told, slot_mark_told, slots_of}
use Rattle.told_nodes.proofs.Numerals.{closed_read, digits_lack, id_lacks, slot_read}
use Rattle.told_nodes.proofs.Words.{all_appended, behind_both, each_behind, lacks, parts_behind}

-- no space and no line feed stands in the word
abbrev pub is_plain : List ℕ → Bool
is_plain w = lacks 32 w && lacks 10 w

-- the text is plain words, each behind a space, that are read so
pub record Spells (t : List ℕ) (xs : List SlotWord) : Type 0 where
  pub words : List (List ℕ)
  pub is : t ≡ each_behind 32 words
  pub plain : list_all is_plain words ≡ true
  pub read : slot_words_in words ≡ Some xs

pub spells_nothing : Spells [] []
spells_nothing = record { words = []; is = refl; plain = refl; read = refl }

both_read : (ws vs : List (List ℕ)) (xs ys : List SlotWord) → slot_words_in ws ≡ Some xs → slot_words_in vs ≡ Some ys
    → slot_words_in (ws ++ vs) ≡ Some (xs ++ ys)
both_read [] vs xs ys f g =
    let none : [] ≡ xs = cc in
    g ∙ ap (λ (zs : List SlotWord). Some (zs ++ ys)) none
both_read (w ∷ ws) vs xs ys f g =
    by (slot_word_in (parts 45 w)) (slot_words_in ws) f (λ zs h. both_read ws vs zs ys h g)
  where
    by : (first : Option SlotWord) (rest : Option (List SlotWord))
        → if_there first (λ x. if_there rest (λ zs. Some (x ∷ zs))) ≡ Some xs
        → ((zs : List SlotWord) → rest ≡ Some zs → slot_words_in (ws ++ vs) ≡ Some (zs ++ ys))
        → if_there first (λ x. if_there (slot_words_in (ws ++ vs)) (λ zs. Some (x ∷ zs))) ≡ Some (xs ++ ys)
    by None rest h later = absurd cc
    by (Some x) None h later = absurd cc
    by (Some x) (Some zs) h later =
        let same : x ∷ zs ≡ xs = cc in
        ap (λ o. if_there o (λ us. Some (x ∷ us))) (later zs refl) ∙ ap (λ (us : List SlotWord). Some (us ++ ys)) same

pub spells_both : (s t : List ℕ) (xs ys : List SlotWord) → Spells s xs → Spells t ys → Spells (s ++ t) (xs ++ ys)
spells_both s t xs ys f g = record {
  words = f.words ++ g.words;
  is = ap (λ u. u ++ t) f.is ∙ ap (λ u. each_behind 32 f.words ++ u) g.is ∙ sym (behind_both 32 f.words g.words);
  plain = all_appended is_plain f.words g.words f.plain g.plain;
  read = both_read f.words g.words xs ys f.read g.read;
}

pub spells_one : (w : List ℕ) (x : SlotWord) → is_plain w ≡ true → slot_word_in (parts 45 w) ≡ Some x
    → Spells (32 ∷ w) (x ∷ [])
spells_one w x plain read = record {
  words = w ∷ [];
  is = ap (λ t. 32 ∷ t) (sym (append-nil w));
  plain = and_from (is_plain w) true plain refl;
  read = ap (λ o. if_there o (λ first. Some (first ∷ []))) read;
}

pub spells_below : (f : ℕ → List ℕ) (g : ℕ → List SlotWord) (n : ℕ) → ((i : ℕ) → i < n → Spells (f i) (g i))
    → Spells (below f n) (below g n)
unfolding below
spells_below f g zero each = spells_nothing
spells_below f g (suc n) each =
    spells_both (below f n) (f n) (below g n) (g n) (spells_below f g n (λ i lt. each i (omega arith)))
    (each n (omega arith))

-- ---- ranges

plain_number : (n : ℕ) → n < 16384 → is_plain (decimal n) ≡ true
plain_number n lt =
    and_from (lacks 32 (decimal n)) (lacks 10 (decimal n)) (digits_lack 32 n refl (omega arith))
    (digits_lack 10 n refl (omega arith))

pub plain_both : (s t : List ℕ) → is_plain s ≡ true → is_plain t ≡ true → is_plain (s ++ t) ≡ true
plain_both s t f g =
    let p = and_parts (lacks 32 s) (lacks 10 s) f in
    let q = and_parts (lacks 32 t) (lacks 10 t) g in
    and_from (lacks 32 (s ++ t)) (lacks 10 (s ++ t)) (all_appended (λ b. not (nat_eq b 32)) s t p.0 q.0)
    (all_appended (λ b. not (nat_eq b 10)) s t p.1 q.1)

number_apart : (n : ℕ) → n < 16384 → lacks 45 (decimal n) ≡ true
number_apart n lt = digits_lack 45 n refl (omega arith)

one_slot : (first last : ℕ) → first < 16384 → first ≡ last
    → slot_word_in (parts 45 (decimal first)) ≡ Some (Slots first last)
one_slot first last lt same =
    ap slot_word_in (ap (parts 45) (sym (append-nil (decimal first)))
    ∙ parts_behind 45 (decimal first) [] (number_apart first lt) refl)
    ∙ ap (λ o. if_there o (λ s. Some (Slots s s))) (slot_read first lt)
    ∙ ap (λ s. Some (Slots first s)) same

some_slots : (first last : ℕ) → first < last → last < 16384
    → slot_word_in (parts 45 (decimal first ++ (45 ∷ decimal last))) ≡ Some (Slots first last)
some_slots first last less lt =
    let low : first < 16384 = omega arith in
    ap slot_word_in (ap (λ t. parts 45 (decimal first ++ (45 ∷ t))) (sym (append-nil (decimal last)))
    ∙ parts_behind 45 (decimal first) (decimal last ∷ []) (number_apart first low)
    (and_from (lacks 45 (decimal last)) true (number_apart last lt) refl))
    ∙ ap (λ o. if_there o (λ a. if_there (slot_in (decimal last)) (λ b. cond (nat_lt a b) (Some (Slots a b)) None)))
    (slot_read first low)
    ∙ ap (λ o. if_there o (λ b. cond (nat_lt first b) (Some (Slots first b)) None)) (slot_read last lt)
    ∙ ap (λ b. cond b (Some (Slots first last)) None) (lt-ltb first last less)

range_spelled : (r : SlotRange) → r.first ≤ r.last → r.last < 16384 → Spells (range_word r) (slots_of r ∷ [])
range_spelled r le lt =
    by (nat_eq r.first r.last) refl
  where
    by : (b : Bool) → nat_eq r.first r.last ≡ b
        → Spells (32 ∷ (decimal r.first ++ cond b [] (codes "-" ++ decimal r.last))) (Slots r.first r.last ∷ [])
    by true e =
        let same : r.first ≡ r.last = eqb-true r.first r.last e in
        subst (λ (t : List ℕ). Spells (32 ∷ t) (Slots r.first r.last ∷ [])) (sym (append-nil (decimal r.first)))
        (spells_one (decimal r.first) (Slots r.first r.last) (plain_number r.first (omega arith))
        (one_slot r.first r.last (omega arith) same))
    by false e =
        let other : r.first ≢ r.last = eqb-false r.first r.last e in
        spells_one (decimal r.first ++ (45 ∷ decimal r.last)) (Slots r.first r.last)
        (plain_both (decimal r.first) (45 ∷ decimal r.last) (plain_number r.first (omega arith))
        (plain_both (45 ∷ []) (decimal r.last) refl (plain_number r.last lt)))
        (some_slots r.first r.last (omega arith) lt)

word_spelled : (n : ℕ) (r : SlotRange) (rs : List SlotRange) (t : List ℕ) → r.first ≤ r.last → r.last < 16384
    → Spells t (map slots_of (filter (λ q. nat_eq q.owner n) rs))
    → Spells (word_of n r ++ t) (map slots_of (filter (λ q. nat_eq q.owner n) (r ∷ rs)))
word_spelled n r rs t le lt rest = by (nat_eq r.owner n)
  where
    by : (b : Bool) → Spells (cond b (range_word r) [] ++ t)
        (map slots_of (cond b (r ∷ filter (λ q. nat_eq q.owner n) rs) (filter (λ q. nat_eq q.owner n) rs)))
    by true =
        spells_both (range_word r) t (slots_of r ∷ []) (map slots_of (filter (λ q. nat_eq q.owner n) rs))
        (range_spelled r le lt) rest
    by false = rest

ranges_from_spelled : (n from end : ℕ) (rs : List SlotRange) → end ≤ 16384 → Follow from end rs
    → Spells (flat_map (word_of n) rs) (map slots_of (filter (λ q. nat_eq q.owner n) rs))
ranges_from_spelled n from end [] most h = spells_nothing
ranges_from_spelled n from end (r ∷ rs) most h =
    let left : r.last + 1 ≤ end = follow_le (r.last + 1) end rs h.3 in
    word_spelled n r rs (flat_map (word_of n) rs) h.1 (omega arith) (ranges_from_spelled n (r.last + 1) end rs most h.3)

pub ranges_spelled : (owners : List ℕ) (n : ℕ) → length owners ≡ 16384
    → Spells (flat_map (word_of n) (owner_ranges owners)) (ranges_told owners n)
ranges_spelled owners n width =
    ranges_from_spelled n 0 (length owners) (owner_ranges owners) (omega arith) (ranges_are_longest owners).follow

-- ---- marks

plain_mark : (s n : ℕ) (arrow : List ℕ) → s < 16384 → n < 256 → is_plain arrow ≡ true
    → is_plain (91 ∷ (decimal s ++ (arrow ++ (id_of n ++ 93 ∷ [])))) ≡ true
plain_mark s n arrow lt few plain =
    let id : is_plain (id_of n) ≡ true =
    and_from (lacks 32 (id_of n)) (lacks 10 (id_of n)) (id_lacks 32 n refl few) (id_lacks 10 n refl few) in
    plain_both (91 ∷ []) (decimal s ++ (arrow ++ (id_of n ++ 93 ∷ []))) refl
    (plain_both (decimal s) (arrow ++ (id_of n ++ 93 ∷ [])) (plain_number s lt)
    (plain_both arrow (id_of n ++ 93 ∷ []) plain (plain_both (id_of n) (93 ∷ []) id refl)))

mark_parted : (s n head : ℕ) → s < 16384 → n < 256 → nat_eq head 45 ≡ false
    → parts 45 (91 ∷ (decimal s ++ (45 ∷ (head ∷ (45 ∷ (id_of n ++ 93 ∷ []))))))
    ≡ (91 ∷ decimal s) ∷ ((head ∷ []) ∷ ((id_of n ++ 93 ∷ []) ∷ []))
mark_parted s n head lt few other =
    let id : lacks 45 (id_of n ++ 93 ∷ []) ≡ true =
    all_appended (λ b. not (nat_eq b 45)) (id_of n) (93 ∷ []) (id_lacks 45 n refl few) refl in
    let first : lacks 45 (91 ∷ decimal s) ≡ true = number_apart s lt in
    let arrow : lacks 45 (head ∷ []) ≡ true = rw other refl in
    ap (λ t. parts 45 (91 ∷ (decimal s ++ (45 ∷ (head ∷ (45 ∷ t)))))) (sym (append-nil (id_of n ++ 93 ∷ [])))
    ∙ parts_behind 45 (91 ∷ decimal s) ((head ∷ []) ∷ ((id_of n ++ 93 ∷ []) ∷ [])) first (rw (arrow, id) refl)

going_spelled : (s n : ℕ) → s < 16384 → n < 256 → Spells (mark_word s (codes "->-") n) (Migrating s (id_of n) ∷ [])
going_spelled s n lt few =
    spells_one (91 ∷ (decimal s ++ (codes "->-" ++ (id_of n ++ 93 ∷ [])))) (Migrating s (id_of n))
    (plain_mark s n (codes "->-") lt few refl)
    (ap slot_word_in (mark_parted s n 62 lt few refl) ∙ rw (slot_read s lt, closed_read n few) refl)

coming_spelled : (s n : ℕ) → s < 16384 → n < 256 → Spells (mark_word s (codes "-<-") n) (Importing s (id_of n) ∷ [])
coming_spelled s n lt few =
    spells_one (91 ∷ (decimal s ++ (codes "-<-" ++ (id_of n ++ 93 ∷ [])))) (Importing s (id_of n))
    (plain_mark s n (codes "-<-") lt few refl)
    (ap slot_word_in (mark_parted s n 60 lt few refl) ∙ rw (slot_read s lt, closed_read n few) refl)

mark_spelled : (s : ℕ) (migrating importing : Option ℕ) → s < 16384 → IfSome migrating (λ n. n < 256)
    → IfSome importing (λ n. n < 256) → Spells (mark_of s migrating importing) (mark_told s migrating importing)
mark_spelled s (Some n) importing lt f g = going_spelled s n lt f
mark_spelled s None (Some n) lt f g = coming_spelled s n lt g
mark_spelled s None None lt f g = spells_nothing

if_few : (o : Option ℕ) (nodes : ℕ) → nodes ≤ 255 → IfSome o (λ n. n < nodes) → IfSome o (λ n. n < 256)
if_few None nodes most h = tt
if_few (Some n) nodes most h = omega (arith, h)

pub marks_spelled : (t : Table) (n : ℕ) → t.nodes ≤ 255 → NameNodes t.nodes t.migrating
    → NameNodes t.nodes t.importing → Spells (line_marks t n) (marks_told t n)
marks_spelled t n most migrating importing = by (nat_eq n t.me)
  where
    by : (b : Bool) → Spells (cond b (marks_text t) []) (cond b (below (slot_mark_told t) 16384) [])
    by true = spells_below (slot_mark t) (slot_mark_told t) 16384 (λ s lt.
        mark_spelled s (finite.get t.migrating s) (finite.get t.importing s) lt
        (if_few (finite.get t.migrating s) t.nodes most (migrating s))
        (if_few (finite.get t.importing s) t.nodes most (importing s)))
    by false = spells_nothing
