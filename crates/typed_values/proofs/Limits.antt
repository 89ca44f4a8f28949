-- What is within the limits stays within them.
use Rattle.std.proofs.Common.{◌≡◌, ℕ, zero, suc, ◌+◌, ◌≤◌, Bool, true, false, cond, List, [], ◌∷◌, ◌++◌, length, Some, slice_get, Ok, Err, nat_lt, refl, subst, arith}
use Rattle.std.proofs.lemmas.Bool.{ltb-false}
use Rattle.std.specs.List.{AllByRecursion}
use Rattle.std.specs.Map.{keys_of}
use Rattle.typed_values.specs.Faults.{within}
use Rattle.typed_values.specs.declared.fault.ValueFault.TheVariants.{TooLong}
use Rattle.typed_values.specs.Fields.{same_bytes, Fields, field, put, without, fields_with, fields_without, IsShortField, AreShortFields}
use Rattle.typed_values.specs.Members.{has, with_member, members_with, without_member, members_without, AreShortMembers}
use Rattle.typed_values.proofs.FieldsSeen.{length-put, length-without}
use Rattle.typed_values.proofs.Counting.{length-with_member, length-without_member, all-without_member}

pub short-put : (es : Fields) (f v : List ℕ) → AreShortFields es → IsShortField (f, v) → AreShortFields (put es f v)
short-put [] f v h n = (n, tt)
short-put (e ∷ es) f v h n =
    elim (same_bytes f e.0) as (λ b. AllByRecursion IsShortField (cond b ((e.0, v) ∷ es) (e ∷ put es f v)))
    [ true ↦ ((h.0.0, n.1), h.1) | false ↦ (h.0, short-put es f v h.1 n) ]

pub short-without : (es : Fields) (f : List ℕ) → AreShortFields es → AreShortFields (without es f)
short-without [] f h = tt
short-without (e ∷ es) f h =
    elim (same_bytes f e.0) as (λ b. AllByRecursion IsShortField (cond b es (e ∷ without es f)))
    [ true ↦ h.1 | false ↦ (h.0, short-without es f h.1) ]

pub short-fields_without : (es : Fields) (fs : List (List ℕ)) → AreShortFields es → AreShortFields (fields_without es fs)
short-fields_without es [] h = h
short-fields_without es (f ∷ fs) h = short-fields_without (without es f) fs (short-without es f h)

pub length-fields_without : (es : Fields) (fs : List (List ℕ)) → length (fields_without es fs) ≤ length es
length-fields_without es [] = omega arith
length-fields_without es (f ∷ fs) = omega (arith, length-fields_without (without es f) fs, length-without es f)

pub short-pair : (es : Fields) (i : ℕ) (p : List ℕ × List ℕ) → AreShortFields es → slice_get es i ≡ Some p → IsShortField p
short-pair [] i p h e = cc
short-pair (x ∷ es) zero p h e = let same : x ≡ p = cc in subst IsShortField same h.0
short-pair (x ∷ es) (suc i) p h e = short-pair es i p h.1 e

pub short-field : (es : Fields) (f v : List ℕ) → AreShortFields es → field es f ≡ Some v → length v ≤ 1048576
short-field [] f v h = λ e. cc
short-field (x ∷ es) f v h = chosen (short-field es f v h.1) (same_bytes f x.0)
  where
    chosen : (field es f ≡ Some v → length v ≤ 1048576) → (b : Bool) → cond b (Some x.1) (field es f) ≡ Some v → length v ≤ 1048576
    chosen rest true e = let same : x.1 ≡ v = cc in subst (λ w. length w ≤ 1048576) same h.0.1
    chosen rest false e = rest e

one-le : (b : Bool) → cond b 0 1 ≤ 1
one-le true = omega arith
one-le false = omega arith

-- a hash gains no more fields than it is given, and loses none
pub fields_with_bound : (es ps : Fields) → length (fields_with es ps) ≤ length es + length ps
fields_with_bound es [] = omega arith
fields_with_bound es (p ∷ ps) = omega (arith, fields_with_bound (put es p.0 p.1) ps, length-put es p.0 p.1, one-le (has (keys_of es) p.0))

pub fields_with_grows : (es ps : Fields) → length es ≤ length (fields_with es ps)
fields_with_grows es [] = omega arith
fields_with_grows es (p ∷ ps) = omega (arith, fields_with_grows (put es p.0 p.1) ps, length-put es p.0 p.1)

-- nor does a set
pub members_with_bound : (ms xs : List (List ℕ)) → length (members_with ms xs) ≤ length ms + length xs
members_with_bound ms [] = omega arith
members_with_bound ms (x ∷ xs) = omega (arith, members_with_bound (with_member ms x) xs, length-with_member ms x, one-le (has ms x))

pub members_with_grows : (ms xs : List (List ℕ)) → length ms ≤ length (members_with ms xs)
members_with_grows ms [] = omega arith
members_with_grows ms (x ∷ xs) = omega (arith, members_with_grows (with_member ms x) xs, length-with_member ms x)

all-push : (P : List ℕ → Type 0) (ms : List (List ℕ)) (m : List ℕ) → AllByRecursion P ms → P m → AllByRecursion P (ms ++ m ∷ [])
all-push P [] m h n = (n, tt)
all-push P (x ∷ ms) m h n = (h.0, all-push P ms m h.1 n)

pub short-with_member : (ms : List (List ℕ)) (m : List ℕ) → AreShortMembers ms → length m ≤ 1048576 → AreShortMembers (with_member ms m)
short-with_member ms m h n =
    elim (has ms m) as (λ b. AreShortMembers (cond b ms (ms ++ m ∷ [])))
    [ true ↦ h | false ↦ all-push (λ x. length x ≤ 1048576) ms m h n ]

pub short-members_without : (ms xs : List (List ℕ)) → AreShortMembers ms → AreShortMembers (members_without ms xs)
short-members_without ms [] h = h
short-members_without ms (x ∷ xs) h =
    short-members_without (without_member ms x) xs (all-without_member (λ m. length m ≤ 1048576) ms x h)

pub length-members_without : (ms xs : List (List ℕ)) → length (members_without ms xs) ≤ length ms
length-members_without ms [] = omega arith
length-members_without ms (x ∷ xs) = omega (arith, length-members_without (without_member ms x) xs, length-without_member ms x)

pub short-member : (ms : List (List ℕ)) (i : ℕ) (m : List ℕ) → AreShortMembers ms → slice_get ms i ≡ Some m → length m ≤ 1048576
short-member [] i m h e = cc
short-member (x ∷ ms) zero m h e = let same : x ≡ m = cc in subst (λ w. length w ≤ 1048576) same h.0
short-member (x ∷ ms) (suc i) m h e = short-member ms i m h.1 e

-- what is within the limit was given its length
pub within-limit : {X : Type 0} (n : ℕ) (x y : X) → Ok x ≡ within n y → n ≤ 1048576
within-limit n x y = chosen (nat_lt 1048576 n) refl
  where
    chosen : (b : Bool) → nat_lt 1048576 n ≡ b → Ok x ≡ cond b (Err TooLong) (Ok y) → n ≤ 1048576
    chosen true s e = cc
    chosen false s e = ltb-false 1048576 n s
