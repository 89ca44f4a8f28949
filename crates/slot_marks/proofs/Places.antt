-- A row of optional marks, seen as a finite map.
use Rattle.std.proofs.Common.{◌≡◌, ◌≢◌, ℕ, zero, suc, ◌+◌, ◌<◌, true, false, cond, List, [], ◌∷◌, ◌≤◌, ◌&&◌, nat_eq, length, get_or, set, Option, Some, None, sym, refl, ap, ◌∙◌, subst, arith, nat_cmp, is_eq, Ordering, Less, Equal, Greater, inl, inr, Bool, IsTrue, ◌↔◌, not, is_some}
use Rattle.std.proofs.lemmas.Bool.{cases_eq, cond-true, cond-false, true≢false, and_parts, eq-eqb, eqb-true}
use Rattle.std.proofs.lemmas.List.{get_or-set_same, get_or-set_other, get_or_past}
use Rattle.std.specs.Cmp.Lexicographic.{pointwise}
use Rattle.std.specs.Option.{option_eq}
use Rattle.std.specs.List.{list_all}
use Rattle.std.specs.FinMap.{get, find, insert, remove, get-from_entries, get-insert, get-remove, get-empty, empty, same_map, nat_cmp-IsAntisymmetric}
use Rattle.std.specs.Cmp.{nat_cmp_total, tied_itself}
use Rattle.slot_marks.specs.Rows.{marks_from, marks_of}

tied : (t s : ℕ) → t ≢ s → is_eq (nat_cmp t s) ≡ false
tied t s e = by (nat_cmp t s) refl
  where
    by : (r : Ordering) → nat_cmp t s ≡ r → is_eq r ≡ false
    by Less p = refl
    by Equal p = absurd (e (nat_cmp-IsAntisymmetric t s p))
    by Greater p = refl

same : (s : ℕ) → is_eq (nat_cmp s s) ≡ true
same s = ap is_eq (tied_itself nat_cmp_total s)

less : (q i : ℕ) → q < i → q ≢ i
less q i h e = omega arith

find_below : (i : ℕ) (xs : List (Option ℕ)) (q : ℕ) → q < i → find nat_cmp q (marks_from i xs) ≡ None
find_below i [] q h = refl
find_below i (None ∷ xs) q h = find_below (suc i) xs q (omega arith)
find_below i (Some v ∷ xs) q h = cond-false _ _ _ (tied q i (less q i h)) ∙ find_below (suc i) xs q (omega arith)

find_at : (i : ℕ) (xs : List (Option ℕ)) (k q : ℕ) → q ≡ i + k → find nat_cmp q (marks_from i xs) ≡ get_or xs k None
find_at i [] k q e = refl
find_at i (None ∷ xs) zero q e = find_below (suc i) xs q (omega arith)
find_at i (None ∷ xs) (suc k) q e = find_at (suc i) xs k q (omega arith)
find_at i (Some v ∷ xs) zero q e = let here : q ≡ i = omega arith in cond-true _ _ _ (ap (λ x. is_eq (nat_cmp x i)) here ∙ same i)
find_at i (Some v ∷ xs) (suc k) q e = cond-false _ _ _ (tied q i (apart q i k e)) ∙ find_at (suc i) xs k q (omega arith)
  where
    apart : (q i k : ℕ) → q ≡ i + suc k → q ≢ i
    apart q i k e p = omega arith

pub get-marks : (xs : List (Option ℕ)) (q : ℕ) → get (marks_of xs) q ≡ get_or xs q None
get-marks xs q = get-from_entries nat_cmp_total (marks_from 0 xs) q ∙ find_at 0 xs q q (omega arith)

-- what a row has at each place once one place is written
get_or-set : (xs : List (Option ℕ)) (s : ℕ) (v : Option ℕ) (q : ℕ) → s < length xs → get_or (set xs s v) q None ≡ cond (is_eq (nat_cmp q s)) v (get_or xs q None)
get_or-set xs s v q h = elim (cases_eq q s) [
  | inl e ↦ subst (λ r. get_or (set xs s v) r None ≡ v) (sym e) (get_or-set_same xs s v None h) ∙ sym (cond-true _ _ _ (ap (λ x. is_eq (nat_cmp x s)) e ∙ same s))
  | inr e ↦ get_or-set_other xs s q v None e ∙ sym (cond-false _ _ _ (tied q s e))
]

pub marks-set : (xs : List (Option ℕ)) (s v : ℕ) → s < length xs → marks_of (set xs s (Some v)) ≡ insert (marks_of xs) s v
marks-set xs s v h =
    same_map nat_cmp_total nat_cmp-IsAntisymmetric _ _
    (λ q. get-marks (set xs s (Some v)) q ∙ get_or-set xs s (Some v) q h
    ∙ sym (get-insert nat_cmp_total _ s v q ∙ ap (cond (is_eq (nat_cmp q s)) (Some v)) (get-marks xs q)))

pub marks-remove : (xs : List (Option ℕ)) (s : ℕ) → s < length xs → marks_of (set xs s None) ≡ remove (marks_of xs) s
marks-remove xs s h =
    same_map nat_cmp_total nat_cmp-IsAntisymmetric _ _
    (λ q. get-marks (set xs s None) q ∙ get_or-set xs s None q h
    ∙ sym (get-remove nat_cmp_total _ s q ∙ ap (cond (is_eq (nat_cmp q s)) None) (get-marks xs q)))

-- a row without marks
pub marks-blank : (xs : List (Option ℕ)) → ((q : ℕ) → get_or xs q None ≡ None) → marks_of xs ≡ empty
marks-blank xs h = same_map nat_cmp_total nat_cmp-IsAntisymmetric _ _ (λ q. get-marks xs q ∙ h q ∙ sym (get-empty nat_cmp q))

abbrev pub is_blank : Option ℕ → Bool
is_blank p = not (is_some p)

blank_at : (xs : List (Option ℕ)) → list_all is_blank xs ≡ true → (q : ℕ) → get_or xs q None ≡ None
blank_at [] h q = refl
blank_at (None ∷ xs) h zero = refl
blank_at (None ∷ xs) h (suc q) = blank_at xs h q
blank_at (Some v ∷ xs) h q = cc

all_blank : (xs : List (Option ℕ)) → ((q : ℕ) → get_or xs q None ≡ None) → list_all is_blank xs ≡ true
all_blank [] h = refl
all_blank (None ∷ xs) h = all_blank xs (λ q. h (suc q))
all_blank (Some v ∷ xs) h = let e : Some v ≡ None = h 0 in cc

pub marks-empty : (xs : List (Option ℕ)) (r : Bool) → r ≡ list_all is_blank xs → IsTrue r ↔ (marks_of xs ≡ empty)
marks-empty xs r e = (λ t. marks-blank xs (blank_at xs (sym e ∙ t)), λ none. e ∙ all_blank xs (λ q. sym (get-marks xs q) ∙ ap (λ m. get m q) none ∙ get-empty nat_cmp q))

-- ---- two rows

-- lists of one length that have the same at each place
same_list : (xs ys : List (Option ℕ)) → length xs ≡ length ys → ((q : ℕ) → get_or xs q None ≡ get_or ys q None) → xs ≡ ys
same_list [] [] l h = refl
same_list [] (y ∷ ys) l h = absurd (omega (arith, l))
same_list (x ∷ xs) [] l h = absurd (omega (arith, l))
same_list (x ∷ xs) (y ∷ ys) l h =
    let e : suc (length xs) ≡ suc (length ys) = l in
    let rest : xs ≡ ys = same_list xs ys (omega (arith, e)) (λ q. h (suc q)) in
    λ i. h 0 i ∷ rest i

same_option : (x y : Option ℕ) → option_eq nat_eq x y ≡ true → x ≡ y
same_option None None e = refl
same_option None (Some y) e = absurd (true≢false (sym e))
same_option (Some x) None e = absurd (true≢false (sym e))
same_option (Some x) (Some y) e = ap (λ z. Some z) (eqb-true x y e)

option_itself : (x : Option ℕ) → option_eq nat_eq x x ≡ true
option_itself None = refl
option_itself (Some x) = eq-eqb x x refl

same_options : (xs ys : List (Option ℕ)) → pointwise (option_eq nat_eq) xs ys ≡ true → xs ≡ ys
same_options [] [] e = refl
same_options [] (y ∷ ys) e = absurd (true≢false (sym e))
same_options (x ∷ xs) [] e = absurd (true≢false (sym e))
same_options (x ∷ xs) (y ∷ ys) e =
    let p = and_parts (option_eq nat_eq x y) (pointwise (option_eq nat_eq) xs ys) e in
    let here : x ≡ y = same_option x y p.0 in
    let rest : xs ≡ ys = same_options xs ys p.1 in
    λ i. here i ∷ rest i

options_itself : (xs : List (Option ℕ)) → pointwise (option_eq nat_eq) xs xs ≡ true
options_itself [] = refl
options_itself (x ∷ xs) = ap (λ b. b && pointwise (option_eq nat_eq) xs xs) (option_itself x) ∙ options_itself xs

-- rows of one length have the same marks where they have the same at each place
pub rows_same : (xs ys : List (Option ℕ)) (r : Bool) → length xs ≡ length ys → r ≡ pointwise (option_eq nat_eq) xs ys
    → IsTrue r ↔ (marks_of xs ≡ marks_of ys)
rows_same xs ys r l e = (
  (λ t. ap marks_of (same_options xs ys (sym e ∙ t))),
  (λ m.
      let same : xs ≡ ys = same_list xs ys l (λ q. sym (get-marks xs q) ∙ ap (λ n. get n q) m ∙ get-marks ys q) in
      e ∙ ap (λ zs. pointwise (option_eq nat_eq) xs zs) (sym same) ∙ options_itself xs),
)

-- a row has no mark past its end
pub marks_end : (xs : List (Option ℕ)) (s : ℕ) → length xs ≤ s → get (marks_of xs) s ≡ None
marks_end xs s h = get-marks xs s ∙ get_or_past xs s None h
