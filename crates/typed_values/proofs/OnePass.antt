-- Removing names one after the other is one pass that keeps the others, where no name stands twice.
use Rattle.std.proofs.Common.{◌≡◌, ℕ, Bool, true, false, cond, not, ◌||◌, List, [], ◌∷◌, fold, map, filter, refl, sym, ap, ◌∙◌}
use Rattle.std.specs.List.{IsDistinct, AllByRecursion}
use Rattle.std.specs.List.Sorted.{IsPermutation}
use Rattle.std.specs.Map.{keys_of, remove_entry}
use Rattle.std.specs.Set.{remove_key}
use Rattle.std.specs.Cmp.Lexicographic.{nat_list_eq_equiv}
use Rattle.std.proofs.lemmas.List.Elements.{filter_agree}
use Rattle.std.proofs.lemmas.List.Sorted.{list_any-IsPermutation}
use Rattle.typed_values.specs.Fields.{same_bytes, Fields, without, fields_without, HasDistinctFields}
use Rattle.typed_values.specs.Members.{has, without_member, members_without, HasDistinctMembers}
use Rattle.typed_values.proofs.Spellings.{same-true}

module _ {X Y : Type 0} (f : X → Y) (p : Y → Bool) where
  pub map-filter : (xs : List X) → map f (filter (λ x. p (f x)) xs) ≡ filter p (map f xs)
  map-filter [] = refl
  map-filter (x ∷ xs) =
      elim (p (f x)) as (λ b. map f (cond b (x ∷ filter (λ y. p (f y)) xs) (filter (λ y. p (f y)) xs)) ≡ cond b (f x ∷ filter p (map f xs)) (filter p (map f xs)))
      [ true ↦ ap (λ r. f x ∷ r) (map-filter xs) | false ↦ map-filter xs ]

module _ {X : Type 0} where
  filter-both : (p q : X → Bool) (xs : List X) → filter (λ x. not (q x)) (filter (λ x. not (p x)) xs) ≡ filter (λ x. not (p x || q x)) xs
  filter-both p q [] = refl
  filter-both p q (x ∷ xs) =
      elim (p x) as (λ b. filter (λ y. not (q y)) (cond (not b) (x ∷ filter (λ y. not (p y)) xs) (filter (λ y. not (p y)) xs)) ≡ cond (not (b || q x)) (x ∷ filter (λ y. not (p y || q y)) xs) (filter (λ y. not (p y || q y)) xs))
      [ true ↦ filter-both p q xs | false ↦ ap (λ r. cond (not (q x)) (x ∷ r) r) (filter-both p q xs) ]

  filter-none : (p : X → Bool) (xs : List X) → AllByRecursion (λ x. p x ≡ false) xs → filter (λ x. not (p x)) xs ≡ xs
  filter-none p [] h = refl
  filter-none p (x ∷ xs) h =
      ap (λ b. cond (not b) (x ∷ filter (λ y. not (p y)) xs) (filter (λ y. not (p y)) xs)) h.0
      ∙ ap (λ r. x ∷ r) (filter-none p xs h.1)

  all-false : (xs : List X) → AllByRecursion (λ (x : X). false ≡ false) xs
  all-false [] = tt
  all-false (x ∷ xs) = (refl, all-false xs)

  all-filter : (P : X → Type 0) (p : X → Bool) (xs : List X) → AllByRecursion P xs → AllByRecursion P (filter p xs)
  all-filter P p [] h = tt
  all-filter P p (x ∷ xs) h =
      elim (p x) as (λ b. AllByRecursion P (cond b (x ∷ filter p xs) (filter p xs)))
      [ true ↦ (h.0, all-filter P p xs h.1) | false ↦ all-filter P p xs h.1 ]

  all-alike : (P Q : X → Type 0) → ((x : X) → P x → Q x) → (xs : List X) → AllByRecursion P xs → AllByRecursion Q xs
  all-alike P Q f [] h = tt
  all-alike P Q f (x ∷ xs) h = (f x h.0, all-alike P Q f xs h.1)

-- items with names, which `out` removes by their names
module _ {X : Type 0} (name : X → List ℕ) (out : List X → List ℕ → List X) (is : (xs : List X) (m : List ℕ) → out xs m ≡ remove_key (λ x. same_bytes m (name x)) xs) where
  -- no name stands twice
  abbrev Apart : List X → Type 0
  Apart [] = Unit {0}
  Apart (x ∷ xs) = AllByRecursion (λ y. same_bytes (name x) (name y) ≡ false) xs × Apart xs

  Apart-filter : (p : X → Bool) (xs : List X) → Apart xs → Apart (filter p xs)
  Apart-filter p [] h = tt
  Apart-filter p (x ∷ xs) h =
      elim (p x) as (λ b. Apart (cond b (x ∷ filter p xs) (filter p xs)))
      [ true ↦ (all-filter (λ y. same_bytes (name x) (name y) ≡ false) p xs h.0, Apart-filter p xs h.1) | false ↦ Apart-filter p xs h.1 ]

  one-out : (xs : List X) (m : List ℕ) → Apart xs → remove_key (λ x. same_bytes m (name x)) xs ≡ filter (λ x. not (same_bytes m (name x))) xs
  one-out [] m h = refl
  one-out (x ∷ xs) m h = chosen (one-out xs m h.1) (same_bytes m (name x)) refl
    where
      others : List X
      others = filter (λ y. not (same_bytes m (name y))) xs

      chosen : remove_key (λ y. same_bytes m (name y)) xs ≡ others → (b : Bool) → same_bytes m (name x) ≡ b → cond b xs (x ∷ remove_key (λ y. same_bytes m (name y)) xs) ≡ cond (not b) (x ∷ others) others
      chosen rest true e =
          sym (filter-none (λ y. same_bytes m (name y)) xs (all-alike _ _ (λ y d. ap (λ n. same_bytes n (name y)) (same-true m (name x) e) ∙ d) xs h.0))
      chosen rest false e = ap (λ r. x ∷ r) rest

  all-out : (xs : List X) (ms : List (List ℕ)) → Apart xs → fold out xs ms ≡ filter (λ x. not (has ms (name x))) xs
  all-out xs [] h = sym (filter-none (λ x. false) xs (all-false xs))
  all-out xs (m ∷ ms) h =
      ap (λ now. fold out now ms) (is xs m ∙ one-out xs m h)
      ∙ all-out (filter (λ x. not (same_bytes m (name x))) xs) ms (Apart-filter _ xs h)
      ∙ filter-both (λ x. same_bytes m (name x)) (λ x. has ms (name x)) xs
      ∙ filter_agree _ _ (λ x. ap (λ b. not (b || has ms (name x))) (nat_list_eq_equiv.symm m (name x))) xs

apart-members : (ms : List (List ℕ)) → HasDistinctMembers ms → Apart (λ m. m) without_member (λ xs m. refl) ms
unfolding IsDistinct
apart-members [] h = tt
apart-members (m ∷ ms) h = (h.0, apart-members ms h.1)

pub members_in_one_pass : (ms xs : List (List ℕ)) → HasDistinctMembers ms → members_without ms xs ≡ filter (λ m. not (has xs m)) ms
members_in_one_pass ms xs h = all-out (λ m. m) without_member (λ xs m. refl) ms xs (apart-members ms h)

entry-key : (test : List ℕ → Bool) (es : Fields) → remove_entry test es ≡ remove_key (λ e. test e.0) es
entry-key test [] = refl
entry-key test (e ∷ es) = ap (λ r. cond (test e.0) es (e ∷ r)) (entry-key test es)

all-names : (P : List ℕ → Type 0) (es : Fields) → AllByRecursion P (keys_of es) → AllByRecursion (λ e. P e.0) es
all-names P [] h = tt
all-names P (e ∷ es) h = (h.0, all-names P es h.1)

apart-fields : (es : Fields) → HasDistinctFields es → Apart (λ e. e.0) without (λ es f. entry-key (same_bytes f) es) es
unfolding IsDistinct
apart-fields [] h = tt
apart-fields (e ∷ es) h = (all-names (λ n. same_bytes e.0 n ≡ false) es h.0, apart-fields es h.1)

pub fields_in_one_pass : (es : Fields) (fs : List (List ℕ)) → HasDistinctFields es → fields_without es fs ≡ filter (λ e. not (has fs e.0)) es
fields_in_one_pass es fs h = all-out (λ e. e.0) without (λ es f. entry-key (same_bytes f) es) es fs (apart-fields es h)

-- the order of the names does not matter
pub members_without-permuted : (ms xs ys : List (List ℕ)) → HasDistinctMembers ms → IsPermutation xs ys → members_without ms ys ≡ members_without ms xs
members_without-permuted ms xs ys h p =
    members_in_one_pass ms ys h
    ∙ filter_agree _ _ (λ m. ap not (sym (list_any-IsPermutation (same_bytes m) xs ys p))) ms
    ∙ sym (members_in_one_pass ms xs h)

pub fields_without-permuted : (es : Fields) (xs ys : List (List ℕ)) → HasDistinctFields es → IsPermutation xs ys → fields_without es ys ≡ fields_without es xs
fields_without-permuted es xs ys h p =
    fields_in_one_pass es ys h
    ∙ filter_agree _ _ (λ e. ap not (sym (list_any-IsPermutation (same_bytes e.0) xs ys p))) es
    ∙ sym (fields_in_one_pass es xs h)
