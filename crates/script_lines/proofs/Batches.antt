-- Keys that are put into a set in turn.
use Rattle.std.proofs.Common.{◌≡◌, ◌≤◌, ◌+◌, ℕ, suc, Bool, true, false, List, [], ◌∷◌, ◌++◌, length, refl, sym, ap, ◌∙◌, append_assoc, arith, subst}
use Rattle.std.specs.Prelude.{nat_eq, drop, IsTrue}
use Rattle.std.specs.Cmp.Lexicographic.{pointwise}
use Rattle.std.specs.List.{IsDistinct}
use Rattle.std.proofs.lemmas.List.{append-nil, length-append}
use Rattle.std.proofs.lemmas.List.{at_drop_all}
use Rattle.typed_values.specs.Members.{has, with_member, members_with, HasDistinctMembers}

-- a member that is there stays alone, and a new one goes last
there : (ms : List (List ℕ)) (k : List ℕ) → has ms k ≡ true → with_member ms k ≡ ms
there ms k e = rw e refl

new : (ms : List (List ℕ)) (k : List ℕ) → has ms k ≡ false → with_member ms k ≡ ms ++ k ∷ []
new ms k e = rw e refl

one_longer : (ms : List (List ℕ)) (k : List ℕ) → length (ms ++ k ∷ []) ≡ length ms + 1
one_longer ms k = length-append ms (k ∷ [])

pub most : (ms ks : List (List ℕ)) → length (members_with ms ks) ≤ length ms + length ks
most ms [] = omega arith
most ms (k ∷ ks) = by (has ms k) refl (most ms ks) (most (ms ++ k ∷ []) ks)
  where
    by : (c : Bool) → has ms k ≡ c → length (members_with ms ks) ≤ length ms + length ks → length (members_with (ms ++ k ∷ []) ks) ≤ length (ms ++ k ∷ []) + length ks
        → length (members_with (with_member ms k) ks) ≤ length ms + suc (length ks)
    by true e f g = rw (there ms k e) (omega (arith, f))
    by false e f g = rw (new ms k e) (omega (arith, g, one_longer ms k))

one_sum : (a b : ℕ) → a + suc b ≡ a + 1 + b
one_sum a b = omega arith

-- a set of as many members as there are keys has the keys, in their order
pub whole : (ms ks : List (List ℕ)) → length (members_with ms ks) ≡ length ms + length ks → members_with ms ks ≡ ms ++ ks
whole ms [] h = sym (append-nil ms)
whole ms (k ∷ ks) h = by (has ms k) refl h (whole (ms ++ k ∷ []) ks)
  where
    count : length ms + suc (length ks) ≡ length (ms ++ k ∷ []) + length ks
    count = rw (one_longer ms k) (one_sum (length ms) (length ks))

    less : length (members_with ms ks) ≡ length ms + suc (length ks) → ⊥
    less f = omega (arith, most ms ks, f)

    by : (c : Bool) → has ms k ≡ c → length (members_with (with_member ms k) ks) ≡ length ms + suc (length ks)
        → (length (members_with (ms ++ k ∷ []) ks) ≡ length (ms ++ k ∷ []) + length ks → members_with (ms ++ k ∷ []) ks ≡ (ms ++ k ∷ []) ++ ks)
        → members_with (with_member ms k) ks ≡ ms ++ k ∷ ks
    by true e g f = absurd (less (ap (λ x. length (members_with x ks)) (sym (there ms k e)) ∙ g))
    by false e g f = rw (new ms k e) (f (ap (λ x. length (members_with x ks)) (sym (new ms k e)) ∙ g ∙ count) ∙ append_assoc ms (k ∷ []) ks)

-- the keys of a set that has them all, and as many members, are distinct
pub distinct_keys : (seen ks : List (List ℕ)) (i n : ℕ) → members_with seen (drop i ks) ≡ members_with [] ks → length ks ≤ i → n ≡ length seen → HasDistinctMembers seen
    → IsTrue (nat_eq n (length ks)) → IsDistinct (pointwise nat_eq) ks
distinct_keys seen ks i n h end count distinct same = subst (λ x. IsDistinct (pointwise nat_eq) x) is distinct
  where
    in_all : seen ≡ members_with [] ks
    in_all = sym (at_drop_all (λ x. members_with seen x) ks i end) ∙ h

    as_many : n ≡ length ks
    as_many = of n (length ks) same
      where
        of : (a b : ℕ) → nat_eq a b ≡ true → a ≡ b
        of a b e = grind arith

    none_more : (a : ℕ) → a ≡ 0 + a
    none_more a = omega arith

    is : seen ≡ ks
    is = in_all ∙ whole [] ks (sym (ap length in_all) ∙ sym count ∙ as_many ∙ none_more (length ks))
