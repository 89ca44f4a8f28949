-- The lines say of each node what the table does.
use Rattle.std.proofs.Common.{◌≡◌, ◌⊎◌, ℕ, ◌+◌, ◌/◌, ◌%◌, ◌<◌, ◌≤◌, Bool, true, false, cond, nat_eq, List, []}
use Rattle.std.proofs.Common.{◌∷◌, ◌++◌, length, get_or, None, Some, codes, inl, inr, refl, sym, ap, ◌∙◌, subst}
use Rattle.std.proofs.Common.{arith}
use Rattle.std.specs.FinMap as finite
use Rattle.std.specs.List.{Contains}
use Rattle.std.proofs.lemmas.Bool.{cases_lt, eqb-true, eq-eqb, le-ltb, lt-ltb}
use Rattle.std.proofs.lemmas.List.Elements.{Contains-append_cases, Contains-append_left, Contains-append_right}
use Rattle.byte_texts.specs.Hexadecimal.{hex_digit}
use Rattle.key_slots.specs.Ranges.{owner_ranges}
use Rattle.slot_marks.specs.Tables.{Table}
use Rattle.cluster_reports.specs.Numbered.{below}
use Rattle.listed_nodes.specs.declared.node_line.NodeLine.{NodeLine}
use Rattle.listed_nodes.specs.declared.slot_word.SlotWord.{SlotWord}
use Rattle.listed_nodes.specs.declared.slot_word.SlotWord.TheVariants.{Slots, Migrating, Importing}
use Rattle.told_nodes.specs.Reading.{IdsAreDistinct, IsLineOf, LinesAreTheTable, Marked, Owns}
use Rattle.told_nodes.specs.Tables.{IsToldFrom}
use Rattle.told_nodes.specs.ToldLines.{line_told, lines_told, marks_told, ranges_told, slot_mark_told}
use Rattle.told_nodes.proofs.Places.{get_or-below, length-below}
use Rattle.told_nodes.proofs.Contained.{below_has, coming_is, going_is, has_below, has_coming, has_going, no_coming}
use Rattle.told_nodes.proofs.Contained.{contains_none, no_going, no_slots, own_ranges, owned_by, owner_listed}
use Rattle.told_nodes.proofs.LineByLine.{nodes_are_read}

-- ---- marks

-- a word in the marks of a node's line is one of the node itself, at one of the slots
marks_have : (t : Table) (n : ℕ) (x : SlotWord) → Contains (marks_told t n) x
    → (n ≡ t.me) × ((at : ℕ) × (at < 16384) × Contains (slot_mark_told t at) x)
marks_have t n x c = by (nat_eq n t.me) refl c
  where
    by : (b : Bool) → nat_eq n t.me ≡ b → Contains (cond b (below (slot_mark_told t) 16384) []) x
        → (n ≡ t.me) × ((at : ℕ) × (at < 16384) × Contains (slot_mark_told t at) x)
    by true e h = (eqb-true n t.me e, below_has (slot_mark_told t) 16384 x h)
    by false e h = absurd (contains_none x h)

have_marks : (t : Table) (n at : ℕ) (x : SlotWord) → n ≡ t.me → at < 16384 → Contains (slot_mark_told t at) x
    → Contains (marks_told t n) x
have_marks t n at x me lt c = by (nat_eq n t.me) (eq-eqb n t.me me)
  where
    by : (b : Bool) → b ≡ true → Contains (cond b (below (slot_mark_told t) 16384) []) x
    by true e = has_below (slot_mark_told t) 16384 at x lt c
    by false e = absurd cc

going_said : (t : Table) (n s : ℕ) (name : List ℕ)
    → Contains (ranges_told t.owners n ++ marks_told t n) (Migrating s name)
    → (n ≡ t.me) × (s < 16384) × Marked t.migrating s name
going_said t n s name c =
    elim (Contains-append_cases (ranges_told t.owners n) (marks_told t n) (Migrating s name) c) [
      | inl front ↦ absurd (no_going (own_ranges n (owner_ranges t.owners)) s name front)
      | inr marks ↦
          let p = marks_have t n (Migrating s name) marks in
          let q = going_is p.1.0 s (finite.get t.migrating p.1.0) (finite.get t.importing p.1.0) name p.1.2 in
          let lt : s < 16384 = subst (λ k. k < 16384) q.0 p.1.1 in
          (p.0, lt, (q.1.0, ap (finite.get t.migrating) (sym q.0) ∙ q.1.1, q.1.2))
    ]

says_going : (t : Table) (n s : ℕ) (name : List ℕ) → (n ≡ t.me) × (s < 16384) × Marked t.migrating s name
    → Contains (ranges_told t.owners n ++ marks_told t n) (Migrating s name)
says_going t n s name h =
    Contains-append_right (ranges_told t.owners n) (marks_told t n) (Migrating s name)
    (have_marks t n s (Migrating s name) h.0 h.1
    (has_going s h.2.0 (finite.get t.migrating s) (finite.get t.importing s) name h.2.1 h.2.2))

coming_said : (t : Table) (n s : ℕ) (name : List ℕ)
    → Contains (ranges_told t.owners n ++ marks_told t n) (Importing s name)
    → (n ≡ t.me) × (s < 16384) × (finite.get t.migrating s ≡ None) × Marked t.importing s name
coming_said t n s name c =
    elim (Contains-append_cases (ranges_told t.owners n) (marks_told t n) (Importing s name) c) [
      | inl front ↦ absurd (no_coming (own_ranges n (owner_ranges t.owners)) s name front)
      | inr marks ↦
          let p = marks_have t n (Importing s name) marks in
          let q = coming_is p.1.0 s (finite.get t.migrating p.1.0) (finite.get t.importing p.1.0) name p.1.2 in
          let lt : s < 16384 = subst (λ k. k < 16384) q.0 p.1.1 in (
            p.0,
            lt,
            ap (finite.get t.migrating) (sym q.0) ∙ q.1,
            (q.2.0, ap (finite.get t.importing) (sym q.0) ∙ q.2.1, q.2.2),
          )
    ]

says_coming : (t : Table) (n s : ℕ) (name : List ℕ)
    → (n ≡ t.me) × (s < 16384) × (finite.get t.migrating s ≡ None) × Marked t.importing s name
    → Contains (ranges_told t.owners n ++ marks_told t n) (Importing s name)
says_coming t n s name h =
    Contains-append_right (ranges_told t.owners n) (marks_told t n) (Importing s name)
    (have_marks t n s (Importing s name) h.0 h.1
    (has_coming s h.3.0 (finite.get t.migrating s) (finite.get t.importing s) name h.2 h.3.1 h.3.2))

-- ---- owners

owner_said : (port : ℕ) (t : Table) (n s : ℕ) → Owns (line_told port t n) s → get_or t.owners s 0 ≡ n
owner_said port t n s h =
    elim (Contains-append_cases (ranges_told t.owners n) (marks_told t n) (Slots h.0 h.1) h.2) [
      | inl front ↦ owned_by t.owners n s h.0 h.1 front h.3 h.4
      | inr marks ↦
          let p = marks_have t n (Slots h.0 h.1) marks in
          absurd (no_slots p.1.0 h.0 h.1 (finite.get t.migrating p.1.0) (finite.get t.importing p.1.0) p.1.2)
    ]

says_owner : (port : ℕ) (t : Table) (n s : ℕ) → s < length t.owners → get_or t.owners s 0 ≡ n
    → Owns (line_told port t n) s
says_owner port t n s lt own =
    let p = owner_listed t.owners n s lt own in
    (p.0, p.1, Contains-append_left (ranges_told t.owners n) (marks_told t n) (Slots p.0 p.1) p.2, p.3, p.4)

-- ---- lines

is_line_of : (port : ℕ) (t : Table) (n : ℕ) → IsToldFrom port t → IsLineOf port t n (line_told port t n)
is_line_of port t n told = record {
  name = refl;
  host = refl;
  port = refl;
  myself = (λ e. eqb-true n t.me e, λ e. eq-eqb n t.me e);
  master = refl;
  failing = refl;
  failed = refl;
  linked = refl;
  epoch = refl;
  owns = λ s lt.
      let width : length t.owners ≡ 16384 = told.owners.width in
      let within : s < length t.owners = omega arith in
      (λ h. owner_said port t n s h, λ own. says_owner port t n s within own);
  migrating = λ s name. (λ c. going_said t n s name c, λ h. says_going t n s name h);
  importing = λ s name. (λ c. coming_said t n s name c, λ h. says_coming t n s name h);
}

some_same : {A : Type 0} (x y : A) → Some x ≡ Some y → x ≡ y
some_same x y e = cc

pub lines_are_the_table : LinesAreTheTable
lines_are_the_table port t ls told read =
    let are : lines_told port t ≡ ls = some_same (lines_told port t) ls (sym (nodes_are_read port t told) ∙ read) in (
      ap (λ (xs : List NodeLine). length xs) (sym are) ∙ length-below (line_told port t) t.nodes,
      λ n d lt.
          subst (λ (xs : List NodeLine). IsLineOf port t n (get_or xs n d)) are
          (subst (λ (l : NodeLine). IsLineOf port t n l) (sym (get_or-below (line_told port t) t.nodes n d lt))
          (is_line_of port t n told)),
    )

-- ---- IDs

digit_is : (n : ℕ) → ((n < 10) × (hex_digit n ≡ 48 + n)) ⊎ ((10 ≤ n) × (hex_digit n ≡ 87 + n))
digit_is n = elim (cases_lt n 10) [
  | inl low ↦ inl (low, ap (λ b. cond b (48 + n) (87 + n)) (lt-ltb n 10 low))
  | inr high ↦ inr (high, ap (λ b. cond b (48 + n) (87 + n)) (le-ltb n 10 high))
]

same_digit : (n m : ℕ) → n < 16 → m < 16 → hex_digit n ≡ hex_digit m → n ≡ m
same_digit n m f g e = elim (digit_is n) [
  | inl p ↦ elim (digit_is m) [
    | inl q ↦ omega (arith, p.0, p.1, q.0, q.1, e)
    | inr q ↦ absurd (omega (arith, p.0, p.1, q.0, q.1, e))
  ]
  | inr p ↦ elim (digit_is m) [
    | inl q ↦ absurd (omega (arith, p.0, p.1, q.0, q.1, e))
    | inr q ↦ omega (arith, p.0, p.1, q.0, q.1, e)
  ]
]

last_two : (a b c d : ℕ)
    → codes "00000000000000000000000000000000000000" ++ a ∷ (b ∷ [])
    ≡ codes "00000000000000000000000000000000000000" ++ c ∷ (d ∷ [])
    → (a ≡ c) × (b ≡ d)
last_two a b c d e = (
  ap (λ (t : List ℕ). get_or t 38 0) e,
  ap (λ (t : List ℕ). get_or t 39 0) e,
)

pub ids_are_distinct : IdsAreDistinct
ids_are_distinct n m f g e =
    let p = last_two (hex_digit (n / 16)) (hex_digit (n % 16)) (hex_digit (m / 16)) (hex_digit (m % 16)) e in
    let high : n / 16 ≡ m / 16 = same_digit (n / 16) (m / 16) (omega arith) (omega arith) p.0 in
    let low : n % 16 ≡ m % 16 = same_digit (n % 16) (m % 16) (omega arith) (omega arith) p.1 in
    omega arith
