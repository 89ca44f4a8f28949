-- Writing one after the other.
use Rattle.std.proofs.Common.{◌≡◌, ℕ, zero, suc, ◌+◌, ◌≤◌, ◌<◌, arith, false, List, [], ◌∷◌, ◌++◌, length, get_or, take, Option, Some, None, option_map, slice_get, refl, sym, ap, subst, ◌∙◌, map}
use Rattle.std.specs.List.{flat_map, AllByRecursion}
use Rattle.std.specs.Option.{IsSome}
use Rattle.std.proofs.lemmas.List.{take_more, flat_map_more, map-append}
use Rattle.std.proofs.lemmas.Option.{slice_get_within, get_or_from_slice_get, slice_get-get_or}
use Rattle.typed_values.specs.Values.{is_nil}

pub taken : {X : Type 0} (xs : List X) (i : ℕ) (x : X) → slice_get xs i ≡ Some x → take (i + 1) xs ≡ take i xs ++ x ∷ []
taken xs i x at = take_more xs i x (slice_get_within xs i x at) ∙ ap (λ y. take i xs ++ y ∷ []) (get_or_from_slice_get xs i x x at)

pub one_written : {X : Type 0} (spell : X → List ℕ) (xs : List X) (i : ℕ) (x : X) (old mid new : List ℕ) → slice_get xs i ≡ Some x → mid ≡ old ++ flat_map spell (take i xs) → new ≡ mid ++ spell x → new ≡ old ++ flat_map spell (take (i + 1) xs)
one_written spell xs i x old mid new at before after =
    after ∙ ap (λ m. m ++ spell x) before ∙ flat_map_more spell old (take i xs) x ∙ ap (λ ys. old ++ flat_map spell ys) (sym (taken xs i x at))

all_push : {X : Type 0} (P : X → Type 0) (xs : List X) (x : X) → AllByRecursion P xs → P x → AllByRecursion P (xs ++ x ∷ [])
all_push P [] x h k = (k, tt)
all_push P (y ∷ xs) x h k = (h.0, all_push P xs x h.1 k)

pub one_fits : {X : Type 0} (P : X → Type 0) (xs : List X) (i : ℕ) (x : X) → slice_get xs i ≡ Some x → AllByRecursion P (take i xs) → P x → AllByRecursion P (take (i + 1) xs)
one_fits P xs i x at before this = subst (AllByRecursion P) (sym (taken xs i x at)) (all_push P (take i xs) x before this)

-- ---- of what is borrowed

views_taken : {X Y : Type 0} (view : X → Y) (xs : List X) (i : ℕ) (x : X) → slice_get xs i ≡ Some x
    → map view (take (i + 1) xs) ≡ map view (take i xs) ++ view x ∷ []
views_taken view xs i x at = ap (map view) (taken xs i x at) ∙ map-append view (take i xs) (x ∷ [])

pub one_view_written : {X Y : Type 0} (view : X → Y) (spell : Y → List ℕ) (xs : List X) (i : ℕ) (x : X) (old mid new : List ℕ)
    → slice_get xs i ≡ Some x → mid ≡ old ++ flat_map spell (map view (take i xs)) → new ≡ mid ++ spell (view x)
    → new ≡ old ++ flat_map spell (map view (take (i + 1) xs))
one_view_written view spell xs i x old mid new at before after =
    after ∙ ap (λ m. m ++ spell (view x)) before ∙ flat_map_more spell old (map view (take i xs)) (view x)
    ∙ ap (λ ys. old ++ flat_map spell ys) (sym (views_taken view xs i x at))

pub one_view_fits : {X Y : Type 0} (view : X → Y) (P : Y → Type 0) (xs : List X) (i : ℕ) (x : X) → slice_get xs i ≡ Some x
    → AllByRecursion P (map view (take i xs)) → P (view x) → AllByRecursion P (map view (take (i + 1) xs))
one_view_fits view P xs i x at before this =
    subst (AllByRecursion P) (sym (views_taken view xs i x at)) (all_push P (map view (take i xs)) (view x) before this)

pub view_at : {X Y : Type 0} (view : X → Y) (P : Y → Type 0) (xs : List X) (i : ℕ) (x : X) → AllByRecursion P (map view xs)
    → slice_get xs i ≡ Some x → P (view x)
view_at view P [] i x h at = cc
view_at view P (y ∷ xs) zero x h at = let same : y ≡ x = cc in subst (λ z. P (view z)) same h.0
view_at view P (y ∷ xs) (suc i) x h at = view_at view P xs i x h.1 at

pub is_there : {X Y : Type 0} (view : X → Y) (r : Option X) (xs : List Y) (i : ℕ) → Y → i < length xs → option_map view r ≡ slice_get xs i → IsSome r
is_there view (Some x) xs i d lt h = refl
is_there view None xs i d lt h = let at = slice_get-get_or xs i d lt in let no : None ≡ Some (get_or xs i d) = h ∙ at in cc

pub some_elements : {X : Type 0} (xs : List X) → is_nil xs ≡ false → 1 ≤ length xs
some_elements [] h = absurd cc
some_elements (x ∷ xs) h = omega arith
