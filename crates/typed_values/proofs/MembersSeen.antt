-- Keys that are vectors, seen as the texts in them.
use Rattle.std.proofs.Common.{◌≡◌, ℕ, Bool, true, false, cond, List, [], ◌∷◌, ◌++◌, ◌||◌, refl, sym, ap, ◌∙◌, Vec, Global, Bor, Option, Some, option_map, option_copied, slice_get}
use Rattle.std.proofs.lemmas.Option.{slice_get-map}
use Rattle.std.specs.Set.{remove_key}
use Rattle.std.specs.List.{IsDistinct, AllByRecursion, AllZip, list_any}
use Rattle.indexmap.specs.IndexSet.{insert_key}
use Rattle.typed_values.specs.Fields.{same_bytes}
use Rattle.typed_values.specs.Members.{members_of, has, with_member, without_member, HasDistinctMembers}

pub has-members_of : (q : List ℕ) (ms : List (Vec ℕ Global)) → list_any (λ k. same_bytes q k.items) ms ≡ has (members_of ms) q
has-members_of q [] = refl
has-members_of q (m ∷ ms) = ap (λ b. same_bytes q m.items || b) (has-members_of q ms)

pub members_of-push : (ms : List (Vec ℕ Global)) (m : Vec ℕ Global) → members_of (ms ++ m ∷ []) ≡ members_of ms ++ m.items ∷ []
members_of-push [] m = refl
members_of-push (k ∷ ms) m = ap (λ r. k.items ∷ r) (members_of-push ms m)

choice : (b : Bool) (ms : List (Vec ℕ Global)) (m : Vec ℕ Global) → members_of (cond b ms (ms ++ m ∷ [])) ≡ cond b (members_of ms) (members_of ms ++ m.items ∷ [])
choice true ms m = refl
choice false ms m = members_of-push ms m

pub members_of-insert_key : (ms : List (Vec ℕ Global)) (m : Vec ℕ Global) → members_of (insert_key (λ x y. same_bytes x.items y.items) ms m) ≡ with_member (members_of ms) m.items
members_of-insert_key ms m =
    choice (list_any (λ k. same_bytes m.items k.items) ms) ms m
    ∙ ap (λ b. cond b (members_of ms) (members_of ms ++ m.items ∷ [])) (has-members_of m.items ms)

pub apart-members_of : (q : List ℕ) (ms : List (Vec ℕ Global)) → AllByRecursion (λ k. same_bytes q k.items ≡ false) ms → AllByRecursion (λ b. same_bytes q b ≡ false) (members_of ms)
apart-members_of q [] h = tt
apart-members_of q (m ∷ ms) h = (h.0, apart-members_of q ms h.1)

pub distinct-members_of : (ms : List (Vec ℕ Global)) → IsDistinct (λ x y. same_bytes x.items y.items) ms → HasDistinctMembers (members_of ms)
unfolding IsDistinct
distinct-members_of [] h = tt
distinct-members_of (m ∷ ms) h = (apart-members_of m.items ms h.0, distinct-members_of ms h.1)

pub members_of-copies : (C : Vec ℕ Global → Vec ℕ Global → Type 0) → ((x y : Vec ℕ Global) → C x y → y.items ≡ x.items) → (ms ns : List (Vec ℕ Global)) → AllZip C ms ns → members_of ns ≡ members_of ms
members_of-copies C c [] [] h = refl
members_of-copies C c [] (n ∷ ns) h = absurd h
members_of-copies C c (m ∷ ms) [] h = absurd h
members_of-copies C c (m ∷ ms) (n ∷ ns) h = λ i. c m n h.0 i ∷ members_of-copies C c ms ns h.1 i

pub members_of-remove_key : (q : List ℕ) (ms : List (Vec ℕ Global)) → members_of (remove_key (λ k. same_bytes q k.items) ms) ≡ without_member (members_of ms) q
members_of-remove_key q [] = refl
members_of-remove_key q (m ∷ ms) =
    elim (same_bytes q m.items) as (λ b. members_of (cond b ms (m ∷ remove_key (λ k. same_bytes q k.items) ms)) ≡ cond b (members_of ms) (m.items ∷ without_member (members_of ms) q))
    [ true ↦ refl | false ↦ ap (λ r. m.items ∷ r) (members_of-remove_key q ms) ]

pub member-at : (ms : List (Vec ℕ Global)) (i : ℕ) (r : Option (Bor (Vec ℕ Global))) (m : Bor (Vec ℕ Global)) → option_copied r ≡ slice_get ms i → r ≡ Some m → slice_get (members_of ms) i ≡ Some m.now.items
member-at ms i r m e s = slice_get-map (λ (v : Vec ℕ Global). v.items) ms i ∙ ap (option_map (λ (v : Vec ℕ Global). v.items)) (sym e ∙ ap option_copied s)
