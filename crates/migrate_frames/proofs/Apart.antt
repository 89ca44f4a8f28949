-- What holds of a list with an element in its middle or at its end.
use Rattle.std.proofs.Common.{◌≡◌, ℕ, Bool, true, false, ◌||◌, List, [], ◌∷◌, ◌++◌, refl, ap, ◌∙◌}
use Rattle.std.specs.List.{AllByRecursion, IsDistinct}
use Rattle.std.specs.Map.{keys_of}
use Rattle.std.proofs.lemmas.Cmp.{nat_list_eq_equiv}
use Rattle.typed_values.specs.Fields.{same_bytes}
use Rattle.typed_values.specs.Members.{has}

pub all_push : {X : Type 0} (P : X → Type 0) (xs : List X) (x : X) → AllByRecursion P xs → P x → AllByRecursion P (xs ++ x ∷ [])
all_push P [] x h k = (k, tt)
all_push P (y ∷ xs) x h k = (h.0, all_push P xs x h.1 k)

pub all_middle : {X : Type 0} (P : X → Type 0) (before : List X) (x : X) (after : List X) → AllByRecursion P (before ++ x ∷ after) → P x
all_middle P [] x after h = h.0
all_middle P (y ∷ before) x after h = all_middle P before x after h.1

both_false : (a b : Bool) → a ≡ false → b ≡ false → (a || b) ≡ false
both_false a b e f = ap (λ c. c || b) e ∙ f

pub left_false : (a b : Bool) → (a || b) ≡ false → a ≡ false
left_false true b e = e
left_false false b e = refl

pub right_false : (a b : Bool) → (a || b) ≡ false → b ≡ false
right_false true b e = cc
right_false false b e = e

-- no key before it is the same
pub new_in_middle : (before : List (List ℕ)) (k : List ℕ) (after : List (List ℕ)) → IsDistinct same_bytes (before ++ k ∷ after) → has before k ≡ false
unfolding IsDistinct
new_in_middle [] k after h = refl
new_in_middle (q ∷ before) k after h =
    both_false (same_bytes k q) (has before k) (nat_list_eq_equiv.symm k q ∙ all_middle (λ y. same_bytes q y ≡ false) before k after h.0) (new_in_middle before k after h.1)

pub distinct_push : (ks : List (List ℕ)) (k : List ℕ) → IsDistinct same_bytes ks → has ks k ≡ false → IsDistinct same_bytes (ks ++ k ∷ [])
unfolding IsDistinct
distinct_push [] k h new = (tt, tt)
distinct_push (q ∷ ks) k h new =
    (all_push (λ y. same_bytes q y ≡ false) ks k h.0 (nat_list_eq_equiv.symm q k ∙ left_false (same_bytes k q) (has ks k) new), distinct_push ks k h.1 (right_false (same_bytes k q) (has ks k) new))

pub distinct_nil : IsDistinct same_bytes []
unfolding IsDistinct
distinct_nil = tt

pub keys_push : {X : Type 0} (es : List (List ℕ × X)) (e : List ℕ × X) → keys_of (es ++ e ∷ []) ≡ keys_of es ++ e.0 ∷ []
keys_push [] e = refl
keys_push (x ∷ es) e = ap (λ ks. x.0 ∷ ks) (keys_push es e)

pub keys_middle : {X : Type 0} (before : List (List ℕ × X)) (e : List ℕ × X) (after : List (List ℕ × X)) → keys_of (before ++ e ∷ after) ≡ keys_of before ++ e.0 ∷ keys_of after
keys_middle [] e after = refl
keys_middle (x ∷ before) e after = ap (λ ks. x.0 ∷ ks) (keys_middle before e after)
