-- One element more of what is listed.
use Rattle.std.proofs.Common.{◌≡◌, ℕ, ◌+◌, ◌-◌, ◌≤◌, ◌<◌, List, [], ◌∷◌, ◌++◌, length, take, drop, get_or, Some, slice_get, sym, ap, ◌∙◌, arith, length-drop, append_assoc}
use Rattle.std.proofs.lemmas.List.{take_more, get_or-drop}
use Rattle.std.proofs.lemmas.Option.{slice_get_within, get_or_from_slice_get}
use Rattle.std.proofs.lemmas.Grind.{flat_map-append}
use Rattle.std.specs.List.{slice_range}
use Rattle.typed_values.specs.Fields.{Fields, names_and_values}
use Rattle.typed_values.specs.Elements.{Elements, pushed_each}

pub taken : {X : Type 0} (xs : List X) (i : ℕ) (x : X) → slice_get xs i ≡ Some x → take (i + 1) xs ≡ take i xs ++ x ∷ []
taken xs i x e = take_more xs i x (slice_get_within xs i x e) ∙ ap (λ y. take i xs ++ y ∷ []) (get_or_from_slice_get xs i x x e)

pub named : (es : Fields) (i : ℕ) (n v : List ℕ) → slice_get es i ≡ Some (n, v) → names_and_values (take (i + 1) es) ≡ (names_and_values (take i es) ++ n ∷ []) ++ v ∷ []
named es i n v e =
    ap names_and_values (taken es i (n, v) e)
    ∙ flat_map-append (λ (p : List ℕ × List ℕ). p.0 ∷ p.1 ∷ []) (take i es) ((n, v) ∷ [])
    ∙ sym (append_assoc (names_and_values (take i es)) (n ∷ []) (v ∷ []))

pub ranged : (l : Elements) (a i : ℕ) (d : List ℕ) → a ≤ i → i < length l → slice_range l a (i + 1) ≡ slice_range l a i ++ get_or l i d ∷ []
ranged l a i d low high =
    let within : i - a < length (drop a l) = simp length-drop (omega arith) in
    ap (λ n. take n (drop a l)) (more a i low)
    ∙ take_more (drop a l) (i - a) d within
    ∙ ap (λ x. take (i - a) (drop a l) ++ x ∷ []) (get_or-drop a l (i - a) d ∙ ap (λ k. get_or l k d) (back a i low))
  where
    more : (a i : ℕ) → a ≤ i → (i + 1) - a ≡ (i - a) + 1
    more a i low = omega arith

    back : (a i : ℕ) → a ≤ i → a + (i - a) ≡ i
    back a i low = omega arith

pub length-pushed_each : (l xs : Elements) → length (pushed_each l xs) ≡ length l + length xs
length-pushed_each l [] = omega arith
length-pushed_each l (x ∷ xs) = length-pushed_each (x ∷ l) xs ∙ omega arith
