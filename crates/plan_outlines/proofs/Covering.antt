-- The ranges of two tables are the longest, and cover all slots.
use Rattle.std.proofs.Common.{◌≡◌, ◌≢◌, ℕ, suc, ◌+◌, ◌<◌, ◌≤◌, inl, inr, ◌⊎◌, Bool, true, false, cond, ◌&&◌, List, [], ◌∷◌, length, get_or, nat_eq, ap, refl, sym, subst, ◌∙◌, arith}
use Rattle.std.proofs.lemmas.Bool.Decides.{nat_tests}
use Rattle.std.proofs.lemmas.List.Elements.{All-from_recursion}
use Rattle.std.proofs.lemmas.List.Sums.{sum_by-cons}
use Rattle.std.specs.List.{AllByRecursion, sum_by}
use Rattle.std.proofs.lemmas.Bool.{cases_lt}
use Rattle.plan_outlines.specs.declared.ranges.RangeChange.{RangeChange}
use Rattle.plan_outlines.specs.Changes.{BeginsOther, Follow, IsOwned, RangesCoverAllSlots, alone, in_front}
use Rattle.plan_outlines.specs.Changes.{change_ranges, changes_from, width}

same_number : (a b : ℕ) → nat_eq a b ≡ true → a ≡ b
same_number a b e = grind (arith, nat_tests)

other_number : (a b : ℕ) → nat_eq a b ≡ false → a ≢ b
other_number a b e = grind (arith, nat_tests)

both : (a b : Bool) → (a && b) ≡ true → (a ≡ true) × (b ≡ true)
both true b e = (refl, e)
both false b e = cc

one_of : (a b : Bool) → (a && b) ≡ false → (a ≡ false) ⊎ (b ≡ false)
one_of true b e = inr e
one_of false b e = inl refl

abbrev is_same : RangeChange → RangeChange → Bool
is_same r q = nat_eq r.before q.before && nat_eq r.after q.after

same_owners : (r q : RangeChange) → is_same r q ≡ true → (r.before ≡ q.before) × (r.after ≡ q.after)
same_owners r q e =
    let h = both (nat_eq r.before q.before) (nat_eq r.after q.after) e in
    (same_number r.before q.before h.0, same_number r.after q.after h.1)

other_owners : (r q : RangeChange) (rs : List RangeChange) → is_same r q ≡ false → BeginsOther r (q ∷ rs)
other_owners r q rs e =
    elim (one_of (nat_eq r.before q.before) (nat_eq r.after q.after) e) [
      | inl h ↦ inl (other_number r.before q.before h)
      | inr h ↦ inr (other_number r.after q.after h)
    ]

begins_other : (r q : RangeChange) (rs : List RangeChange) → r.before ≡ q.before → r.after ≡ q.after → BeginsOther q rs → BeginsOther r rs
begins_other r q [] e f h = tt
begins_other r q (n ∷ rs) e f h =
    elim h [ inl g ↦ inl (λ x. g (sym e ∙ x)) | inr g ↦ inr (λ x. g (sym f ∙ x)) ]

front_follows : (r : RangeChange) (from end : ℕ) (rs : List RangeChange) → r.first ≡ from → r.first ≤ r.last → Follow (r.last + 1) end rs → Follow from end (in_front r rs)
front_follows r from end [] at le h = (at, le, tt, h)
front_follows r from end (q ∷ rs) at le h =
    elim (is_same r q) as (λ b. is_same r q ≡ b → Follow from end (cond b (record r { last = q.last } ∷ rs) (r ∷ (q ∷ rs)))) [
      | true ↦ λ e. (at, longer h.0 h.1, begins_other r q rs (same_owners r q e).0 (same_owners r q e).1 h.2, h.3)
      | false ↦ λ e. (at, le, other_owners r q rs e, h)
    ] refl
  where
    longer : q.first ≡ r.last + 1 → q.first ≤ q.last → r.first ≤ q.last
    longer a b = omega arith

no_less : (n : ℕ) → 0 ≡ suc n → ⊥
no_less n e = omega arith

no_more : (n : ℕ) → suc n ≡ 0 → ⊥
no_more n e = omega arith

less : (m n : ℕ) → suc m ≡ suc n → m ≡ n
less m n e = omega arith

follows : (from : ℕ) (before after : List ℕ) → length before ≡ length after → Follow from (from + length before) (changes_from from before after)
follows from [] after e = omega arith
follows from (b ∷ bs) [] e = absurd (no_more (length bs) e)
follows from (b ∷ bs) (a ∷ as') e =
    let same : (from + 1) + length bs ≡ from + length (b ∷ bs) = omega arith in
    front_follows (alone from b a) from (from + length (b ∷ bs)) (changes_from (from + 1) bs as') refl (omega arith)
    (subst (λ end. Follow (from + 1) end (changes_from (from + 1) bs as')) same (follows (from + 1) bs as' (less (length bs) (length as') e)))

-- all slots of the range have its owners, where v and w give the owners of a slot
abbrev Owned : (v w : ℕ → ℕ) → RangeChange → Type 0
Owned v w r = (s : ℕ) → r.first ≤ s → s ≤ r.last → (v s ≡ r.before) × (w s ≡ r.after)

joined : (v w : ℕ → ℕ) (r q : RangeChange) → r.before ≡ q.before → r.after ≡ q.after → q.first ≡ r.last + 1 → Owned v w r → Owned v w q → Owned v w (record r { last = q.last })
joined v w r q e f next mine its s from to =
    elim (cases_lt r.last s) [
      | inl high ↦
          let first : q.first ≤ s = omega arith in
          ((its s first to).0 ∙ sym e, (its s first to).1 ∙ sym f)
      | inr low ↦ mine s from low
    ]

front_owned : (v w : ℕ → ℕ) (r : RangeChange) (end : ℕ) (rs : List RangeChange) → Owned v w r → Follow (r.last + 1) end rs → AllByRecursion (Owned v w) rs → AllByRecursion (Owned v w) (in_front r rs)
front_owned v w r end [] mine h all = (mine, tt)
front_owned v w r end (q ∷ rs) mine h all =
    elim (is_same r q) as (λ b. is_same r q ≡ b → AllByRecursion (Owned v w) (cond b (record r { last = q.last } ∷ rs) (r ∷ (q ∷ rs)))) [
      | true ↦ λ e. (joined v w r q (same_owners r q e).0 (same_owners r q e).1 h.0 mine all.0, all.1)
      | false ↦ λ e. (mine, all)
    ] refl

abbrev Tells : (w : ℕ → ℕ) → ℕ → List ℕ → Type 0
Tells w from owners = (i : ℕ) → i < length owners → w (from + i) ≡ get_or owners i 0

told_first : (w : ℕ → ℕ) (from o : ℕ) (os : List ℕ) → Tells w from (o ∷ os) → (s : ℕ) → from ≤ s → s ≤ from → w s ≡ o
told_first w from o os is s low high =
    let at : s ≡ from + 0 = omega arith in
    ap w at ∙ is 0 (omega arith)

told_later : (w : ℕ → ℕ) (from o : ℕ) (os : List ℕ) → Tells w from (o ∷ os) → Tells w (from + 1) os
told_later w from o os is i lt =
    let at : (from + 1) + i ≡ from + suc i = omega arith in
    ap w at ∙ is (suc i) (omega arith)

owned : (v w : ℕ → ℕ) (from : ℕ) (before after : List ℕ) → length before ≡ length after → Tells v from before → Tells w from after → AllByRecursion (Owned v w) (changes_from from before after)
owned v w from [] after e f g = tt
owned v w from (b ∷ bs) [] e f g = tt
owned v w from (b ∷ bs) (a ∷ as') e f g =
    front_owned v w (alone from b a) ((from + 1) + length bs) (changes_from (from + 1) bs as')
    (λ s low high. (told_first v from b bs f s low high, told_first w from a as' g s low high))
    (follows (from + 1) bs as' (less (length bs) (length as') e))
    (owned v w (from + 1) bs as' (less (length bs) (length as') e) (told_later v from b bs f) (told_later w from a as' g))

-- ---- the slots of all ranges

longer_width : (r q : RangeChange) → r.first ≤ r.last → q.first ≡ r.last + 1 → q.first ≤ q.last → width (record r { last = q.last }) ≡ width r + width q
longer_width r q a b c = omega arith

front_width : (r : RangeChange) (end : ℕ) (rs : List RangeChange) → r.first ≤ r.last → Follow (r.last + 1) end rs → sum_by width (in_front r rs) ≡ width r + sum_by width rs
front_width r end [] le h = sum_by-cons width r []
front_width r end (q ∷ rs) le h =
    elim (is_same r q) as (λ b. sum_by width (cond b (record r { last = q.last } ∷ rs) (r ∷ (q ∷ rs))) ≡ width r + sum_by width (q ∷ rs)) [
      | true ↦
          sum_by-cons width (record r { last = q.last }) rs ∙ ap (λ n. n + sum_by width rs) (longer_width r q le h.0 h.1)
          ∙ sums (width r) (width q) (sum_by width rs) ∙ ap (λ n. width r + n) (sym (sum_by-cons width q rs))
      | false ↦ sum_by-cons width r (q ∷ rs)
    ]
  where
    sums : (x y z : ℕ) → (x + y) + z ≡ x + (y + z)
    sums x y z = omega arith

widths : (from : ℕ) (before after : List ℕ) → length before ≡ length after → sum_by width (changes_from from before after) ≡ length before
widths from [] after e = refl
widths from (b ∷ bs) [] e = absurd (no_more (length bs) e)
widths from (b ∷ bs) (a ∷ as') e =
    let le : from ≤ from = omega arith in
    let one : width (alone from b a) ≡ 1 = omega arith in
    let rest = widths (from + 1) bs as' (less (length bs) (length as') e) in
    let all = front_width (alone from b a) ((from + 1) + length bs) (changes_from (from + 1) bs as') le (follows (from + 1) bs as' (less (length bs) (length as') e)) in
    omega (arith, one, rest, all)

zero_add : (i : ℕ) → 0 + i ≡ i
zero_add i = omega arith

pub ranges_cover : RangesCoverAllSlots
unfolding change_ranges
ranges_cover before after e = record {
  follow = subst (λ end. Follow 0 end (changes_from 0 before after)) (zero_add (length before)) (follows 0 before after e);
  owned =
      All-from_recursion (IsOwned before after) (changes_from 0 before after)
      (owned (λ s. get_or before s 0) (λ s. get_or after s 0) 0 before after e (λ i lt. ap (λ s. get_or before s 0) (zero_add i)) (λ i lt. ap (λ s. get_or after s 0) (zero_add i)));
  widths = widths 0 before after e;
}
