-- What a line's words say of slots.
use Rattle.std.proofs.Common.{◌≡◌, ◌⊎◌, ℕ, zero, suc, ◌+◌, ◌<◌, ◌≤◌, Bool, true, false, cond, nat_eq, List, [], ◌∷◌}
use Rattle.std.proofs.Common.{length, get_or, Option, None, Some, filter, map, inl, inr, refl, sym, ap, ◌∙◌, subst}
use Rattle.std.proofs.Common.{arith}
use Rattle.std.specs.List.{Contains}
use Rattle.std.proofs.lemmas.Bool.{cases_lt, eqb-true, eq-eqb}
use Rattle.std.proofs.lemmas.List.Elements.{All-contains, Contains-append_cases, Contains-append_left}
use Rattle.std.proofs.lemmas.List.Elements.{Contains-append_right}
use Rattle.key_slots.specs.Ranges.{Follow, IsOwned, owner_ranges}
use Rattle.key_slots.specs.declared.slot_range.SlotRange.{SlotRange}
use Rattle.key_slots.proofs.Longest.{ranges_are_longest}
use Rattle.cluster_node.specs.Redirections.{id_of}
use Rattle.cluster_reports.specs.Numbered.{below}
use Rattle.listed_nodes.specs.declared.slot_word.SlotWord.{SlotWord}
use Rattle.listed_nodes.specs.declared.slot_word.SlotWord.TheVariants.{Slots, Migrating, Importing}
use Rattle.told_nodes.specs.ToldLines.{mark_told, ranges_told, slots_of}

pub contains_none : {A : Type 0} (y : A) → Contains [] y → ⊥
contains_none y c = let lt : c.0 < 0 = c.1 in omega (arith, lt)

contains_cons : {A : Type 0} (x y : A) (xs : List A) → Contains (x ∷ xs) y → (x ≡ y) ⊎ Contains xs y
contains_cons x y xs c = by c.0 c.1 c.2
  where
    by : (k : ℕ) → k < length (x ∷ xs) → get_or (x ∷ xs) k y ≡ y → (x ≡ y) ⊎ Contains xs y
    by zero lt is = inl is
    by (suc k) lt is = let within : k < length xs = omega arith in inr (k, within, is)

contains_here : {A : Type 0} (x : A) (xs : List A) → Contains (x ∷ xs) x
contains_here x xs = let lt : 0 < length (x ∷ xs) = omega arith in (0, lt, refl)

contains_there : {A : Type 0} (x y : A) (xs : List A) → Contains xs y → Contains (x ∷ xs) y
contains_there x y xs c =
    let within : c.0 < length xs = c.1 in
    let lt : suc c.0 < length (x ∷ xs) = omega arith in
    (suc c.0, lt, c.2)

contains_one : {A : Type 0} (x y : A) → Contains (x ∷ []) y → x ≡ y
contains_one x y c = elim (contains_cons x y [] c) [ inl same ↦ same | inr more ↦ absurd (contains_none y more) ]

pub below_has : {A : Type 0} (f : ℕ → List A) (n : ℕ) (y : A) → Contains (below f n) y
    → (s : ℕ) × (s < n) × Contains (f s) y
unfolding below
below_has f zero y c = absurd (contains_none y c)
below_has f (suc n) y c = elim (Contains-append_cases (below f n) (f n) y c) [
  | inl front ↦
      let p = below_has f n y front in
      let lt : p.0 < n = p.1 in
      let less : p.0 < suc n = omega arith in
      (p.0, less, p.2)
  | inr last ↦ let less : n < suc n = omega arith in (n, less, last)
]

pub has_below : {A : Type 0} (f : ℕ → List A) (n s : ℕ) (y : A) → s < n → Contains (f s) y → Contains (below f n) y
unfolding below
has_below f zero s y lt c = absurd (omega arith)
has_below f (suc n) s y lt c = elim (cases_lt s n) [
  | inl low ↦ Contains-append_left (below f n) (f n) y (has_below f n s y low c)
  | inr high ↦
      let same : s ≡ n = omega arith in
      Contains-append_right (below f n) (f n) y (subst (λ k. Contains (f k) y) same c)
]

-- ---- marks

pub going_is : (at s : ℕ) (a b : Option ℕ) (name : List ℕ) → Contains (mark_told at a b) (Migrating s name)
    → (at ≡ s) × ((m : ℕ) × (a ≡ Some m) × (name ≡ id_of m))
going_is at s (Some m) b name c =
    let same : Migrating at (id_of m) ≡ Migrating s name = contains_one (Migrating at (id_of m)) (Migrating s name) c in
    (cc, (m, refl, cc))
going_is at s None (Some m) name c =
    let same : Importing at (id_of m) ≡ Migrating s name = contains_one (Importing at (id_of m)) (Migrating s name) c in
    absurd cc
going_is at s None None name c = absurd (contains_none (Migrating s name) c)

pub coming_is : (at s : ℕ) (a b : Option ℕ) (name : List ℕ) → Contains (mark_told at a b) (Importing s name)
    → (at ≡ s) × (a ≡ None) × ((m : ℕ) × (b ≡ Some m) × (name ≡ id_of m))
coming_is at s (Some m) b name c =
    let same : Migrating at (id_of m) ≡ Importing s name = contains_one (Migrating at (id_of m)) (Importing s name) c in
    absurd cc
coming_is at s None (Some m) name c =
    let same : Importing at (id_of m) ≡ Importing s name = contains_one (Importing at (id_of m)) (Importing s name) c in
    (cc, refl, (m, refl, cc))
coming_is at s None None name c = absurd (contains_none (Importing s name) c)

pub no_slots : (at first last : ℕ) (a b : Option ℕ) → Contains (mark_told at a b) (Slots first last) → ⊥
no_slots at first last (Some m) b c =
    let same : Migrating at (id_of m) ≡ Slots first last = contains_one (Migrating at (id_of m)) (Slots first last) c in
    cc
no_slots at first last None (Some m) c =
    let same : Importing at (id_of m) ≡ Slots first last = contains_one (Importing at (id_of m)) (Slots first last) c in
    cc
no_slots at first last None None c = contains_none (Slots first last) c

pub has_going : (s m : ℕ) (a b : Option ℕ) (name : List ℕ) → a ≡ Some m → name ≡ id_of m
    → Contains (mark_told s a b) (Migrating s name)
has_going s m None b name e is = absurd cc
has_going s m (Some k) b name e is =
    let same : k ≡ m = cc in
    let word : Migrating s (id_of k) ≡ Migrating s name =
    ap (λ i. Migrating s (id_of i)) same ∙ ap (Migrating s) (sym is) in
    subst (λ (x : SlotWord). Contains (Migrating s (id_of k) ∷ []) x) word (contains_here (Migrating s (id_of k)) [])

pub has_coming : (s m : ℕ) (a b : Option ℕ) (name : List ℕ) → a ≡ None → b ≡ Some m → name ≡ id_of m
    → Contains (mark_told s a b) (Importing s name)
has_coming s m (Some k) b name none e is = absurd cc
has_coming s m None None name none e is = absurd cc
has_coming s m None (Some k) name none e is =
    let same : k ≡ m = cc in
    let word : Importing s (id_of k) ≡ Importing s name =
    ap (λ i. Importing s (id_of i)) same ∙ ap (Importing s) (sym is) in
    subst (λ (x : SlotWord). Contains (Importing s (id_of k) ∷ []) x) word (contains_here (Importing s (id_of k)) [])

-- ---- ranges

pub no_going : (rs : List SlotRange) (s : ℕ) (name : List ℕ) → Contains (map slots_of rs) (Migrating s name) → ⊥
no_going [] s name c = contains_none (Migrating s name) c
no_going (r ∷ rs) s name c = elim (contains_cons (slots_of r) (Migrating s name) (map slots_of rs) c) [
  | inl same ↦ let e : Slots r.first r.last ≡ Migrating s name = same in cc
  | inr more ↦ no_going rs s name more
]

pub no_coming : (rs : List SlotRange) (s : ℕ) (name : List ℕ) → Contains (map slots_of rs) (Importing s name) → ⊥
no_coming [] s name c = contains_none (Importing s name) c
no_coming (r ∷ rs) s name c = elim (contains_cons (slots_of r) (Importing s name) (map slots_of rs) c) [
  | inl same ↦ let e : Slots r.first r.last ≡ Importing s name = same in cc
  | inr more ↦ no_coming rs s name more
]

abbrev pub own_ranges : (node : ℕ) → List SlotRange → List SlotRange
own_ranges n rs = filter (λ r. nat_eq r.owner n) rs

-- a range of the node
pub record IsRange (n first last : ℕ) (rs : List SlotRange) : Type 0 where
  pub range : SlotRange
  pub there : Contains rs range
  pub owner : range.owner ≡ n
  pub first_is : range.first ≡ first
  pub last_is : range.last ≡ last

later : (n first last : ℕ) (r : SlotRange) (rs : List SlotRange) → IsRange n first last rs
    → IsRange n first last (r ∷ rs)
later n first last r rs h = record {
  range = h.range;
  there = contains_there r h.range rs h.there;
  owner = h.owner;
  first_is = h.first_is;
  last_is = h.last_is;
}

range_is : (n first last : ℕ) (rs : List SlotRange) → Contains (map slots_of (own_ranges n rs)) (Slots first last)
    → IsRange n first last rs
range_is n first last [] c = absurd (contains_none (Slots first last) c)
range_is n first last (r ∷ rs) c = by (nat_eq r.owner n) refl c (range_is n first last rs)
  where
    by : (b : Bool) → nat_eq r.owner n ≡ b
        → Contains (map slots_of (cond b (r ∷ own_ranges n rs) (own_ranges n rs))) (Slots first last)
        → (Contains (map slots_of (own_ranges n rs)) (Slots first last) → IsRange n first last rs)
        → IsRange n first last (r ∷ rs)
    by true e h rest = elim (contains_cons (slots_of r) (Slots first last) (map slots_of (own_ranges n rs)) h) [
      | inl is ↦ (
          let same : Slots r.first r.last ≡ Slots first last = is in
          record {
            range = r;
            there = contains_here r rs;
            owner = eqb-true r.owner n e;
            first_is = cc;
            last_is = cc;
          })
      | inr more ↦ later n first last r rs (rest more)
    ]
    by false e h rest = later n first last r rs (rest h)

has_range : (n : ℕ) (rs : List SlotRange) (r : SlotRange) → Contains rs r → r.owner ≡ n
    → Contains (map slots_of (own_ranges n rs)) (slots_of r)
has_range n [] r c own = absurd (contains_none r c)
has_range n (q ∷ rs) r c own = elim (contains_cons q r rs c) [
  | inl same ↦
      let owner : nat_eq q.owner n ≡ true = eq-eqb q.owner n (ap (λ (x : SlotRange). x.owner) same ∙ own) in
      first (nat_eq q.owner n) owner same
  | inr more ↦ rest (nat_eq q.owner n) (has_range n rs r more own)
]
  where
    first : (b : Bool) → b ≡ true → q ≡ r
        → Contains (map slots_of (cond b (q ∷ own_ranges n rs) (own_ranges n rs))) (slots_of r)
    first true e same =
        subst (λ (x : SlotRange). Contains (slots_of q ∷ map slots_of (own_ranges n rs)) (slots_of x)) same
        (contains_here (slots_of q) (map slots_of (own_ranges n rs)))
    first false e same = absurd cc

    rest : (b : Bool) → Contains (map slots_of (own_ranges n rs)) (slots_of r)
        → Contains (map slots_of (cond b (q ∷ own_ranges n rs) (own_ranges n rs))) (slots_of r)
    rest true h = contains_there (slots_of q) (slots_of r) (map slots_of (own_ranges n rs)) h
    rest false h = h

-- some range has the slot
covered : (s from end : ℕ) (rs : List SlotRange) → Follow from end rs → from ≤ s → s < end
    → (r : SlotRange) × Contains rs r × (r.first ≤ s) × (s ≤ r.last)
covered s from end [] h low high = absurd (omega (arith, h))
covered s from end (r ∷ rs) h low high = elim (cases_lt r.last s) [
  | inl past ↦
      let p = covered s (r.last + 1) end rs h.3 (omega arith) high in
      (p.0, contains_there r p.0 rs p.1, p.2, p.3)
  | inr within ↦
      let begin : r.first ≡ from = h.0 in
      let least : r.first ≤ s = omega arith in
      (r, contains_here r rs, least, within)
]

pub owned_by : (owners : List ℕ) (n s first last : ℕ) → Contains (ranges_told owners n) (Slots first last) → first ≤ s
    → s ≤ last → get_or owners s 0 ≡ n
owned_by owners n s first last c low high =
    let h = range_is n first last (owner_ranges owners) c in
    let begin : h.range.first ≤ s = subst (λ k. k ≤ s) (sym h.first_is) low in
    let end : s ≤ h.range.last = subst (λ k. s ≤ k) (sym h.last_is) high in
    All-contains (IsOwned owners) (owner_ranges owners) h.range (ranges_are_longest owners).owned h.there s begin end
    ∙ h.owner

pub owner_listed : (owners : List ℕ) (n s : ℕ) → s < length owners → get_or owners s 0 ≡ n
    → (first last : ℕ) × Contains (ranges_told owners n) (Slots first last) × (first ≤ s) × (s ≤ last)
owner_listed owners n s lt own =
    let p = covered s 0 (length owners) (owner_ranges owners) (ranges_are_longest owners).follow (omega arith) lt in
    let owner : p.0.owner ≡ n =
    sym (All-contains (IsOwned owners) (owner_ranges owners) p.0 (ranges_are_longest owners).owned p.1 s p.2 p.3)
    ∙ own in
    (p.0.first, p.0.last, has_range n (owner_ranges owners) p.0 p.1 owner, p.2, p.3)
