-- The errors that commands were answered with, by their texts and keys, and their places.
use Rattle.std.proofs.Common.{◌≡◌, ℕ, suc, ◌<◌, Bool, true, false, not, ◌&&◌, ◌||◌, List, [], ◌∷◌, ◌++◌, length, map, Bor, nat_eq, arith}
use Rattle.std.proofs.Common.{sym, refl, ap, ◌∙◌, subst, inl, inr, if◌then◌else◌}
use Rattle.std.proofs.lemmas.Bool.{cases_Bool, true≢false, lt-ltb, le-ltb}
use Rattle.std.proofs.Math.Bool.{and_comm}
use Rattle.std.specs.Cmp.Lexicographic.{pointwise}
use Rattle.std.specs.Map.{lookup}
use Rattle.std.specs.Prelude.{cond, codes, Option, Some, None, is_some, is_none}
use Rattle.store_commands.specs.Store.{Key}
use Rattle.slot_marks.specs.Verdicts.{first_slot, is_cross}
use Rattle.cluster_node.specs.Redirections.{place}
use Rattle.cluster_world.specs.Earning.{is_ask, is_import, was_asked}
use Rattle.cluster_world.specs.Imported.{Places, Errors, one_slot, since_in, last_import, ArePlacesOf, is_ask_of, place_in, last_error}
use Rattle.cluster_world.specs.Imported.{AreErrorsOf, is_after}
use Rattle.cluster_world.specs.declared.event.Event.{Event}
use Rattle.cluster_world.specs.declared.event.Event.TheVariants.{Client, Look, Admin}
use Rattle.indexmap.specs.IndexMap.{insert_entry}
use Rattle.cluster_world.proofs.Earning.{keys_same, keys_themselves}

-- equal lists of texts, in either order
same_turned : (xs ys : List Key) → pointwise (pointwise nat_eq) xs ys ≡ pointwise (pointwise nat_eq) ys xs
same_turned xs ys = elim (cases_Bool (pointwise (pointwise nat_eq) xs ys)) [
  | inl t ↦ t ∙ sym (subst (λ zs. pointwise (pointwise nat_eq) zs xs ≡ true) (keys_same xs ys t) (keys_themselves xs))
  | inr f ↦ f ∙ other (pointwise (pointwise nat_eq) ys xs) refl f
]
  where
    other : (b : Bool) → pointwise (pointwise nat_eq) ys xs ≡ b → pointwise (pointwise nat_eq) xs ys ≡ false → false ≡ b
    other false e f = refl
    other true e f = absurd (true≢false (
        sym (subst (λ zs. pointwise (pointwise nat_eq) zs ys ≡ true) (keys_same ys xs e) (keys_themselves ys)) ∙ f
        ))

-- an error is one of a text and keys, where both are its own
pub one_error : (text u : List ℕ) (ks these : List Key)
    → pointwise (pointwise nat_eq) (text ∷ ks) (u ∷ these) ≡ (pointwise (pointwise nat_eq) these ks && pointwise nat_eq u text)
one_error text u ks these =
    same_turned (text ∷ ks) (u ∷ these)
    ∙ and_comm (pointwise nat_eq u text) (pointwise (pointwise nat_eq) these ks)

-- an ASK of these keys is an error with the text of an ASK
ask_same : (port n : ℕ) (ks : List Key) (e : Event)
    → is_ask port ks n e ≡ is_ask_of (codes "ASK" ++ place port (first_slot ks) n) ks e
ask_same port n ks (Client seat at asking c r) = refl
ask_same port n ks (Look seat at r) = refl
ask_same port n ks (Admin at c r) = refl

-- ---- places

-- an error and an import, both at the place of the next event or before
abbrev pub is_later : Option ℕ → Option ℕ → Bool
is_later o None = is_some o
is_later o (Some place) = is_after o place

-- every place of the list is below its length
abbrev pub IsBelow : ℕ → Option ℕ → Type 0
IsBelow k None = Unit {0}
IsBelow k (Some place) = place < k

below_more : (k : ℕ) (o : Option ℕ) → IsBelow k o → IsBelow (suc k) o
below_more k None h = tt
below_more k (Some place) h = omega (arith, h)

cond_below : (b : Bool) (k : ℕ) (o : Option ℕ) → IsBelow k o → IsBelow (suc k) (cond b (Some k) o)
cond_below true k o h = omega arith
cond_below false k o h = below_more k o h

error_below : (text : List ℕ) (ks : List Key) (past : List Event) → IsBelow (length past) (last_error text ks past)
error_below text ks [] = tt
error_below text ks (e ∷ past) = cond_below (is_ask_of text ks e) (length past) _ (error_below text ks past)

import_below : (s n : ℕ) (past : List Event) → IsBelow (length past) (last_import s n past)
import_below s n [] = tt
import_below s n (e ∷ past) = cond_below (is_import s n e) (length past) _ (import_below s n past)

-- one event more: an ASK, an import, or neither
one_later : (a i r : Bool) (k : ℕ) (asked imported : Option ℕ) → (a ≡ true → i ≡ false) → IsBelow k asked → IsBelow k imported
    → r ≡ is_later asked imported → (a || (not i && r)) ≡ is_later (cond a (Some k) asked) (cond i (Some k) imported)
one_later true true r k asked imported apart p q e = absurd (true≢false (apart refl))
one_later true false r k asked None apart p q e = refl
one_later true false r k asked (Some place) apart p q e = sym (lt-ltb place k q)
one_later false true r k None imported apart p q e = refl
one_later false true r k (Some place) imported apart p q e = sym (le-ltb k place (omega (arith, p)))
one_later false false r k asked imported apart p q e = e

ask_or_import : (port s n : ℕ) (ks : List Key) (e : Event) → is_ask port ks n e ≡ true → is_import s n e ≡ false
ask_or_import port s n ks (Client seat at asking c r) h = refl
ask_or_import port s n ks (Look seat at r) h = refl
ask_or_import port s n ks (Admin at c r) h = absurd (true≢false (sym h))

-- the keys were asked where their error's last place is after the import's
asked_later : (port n : ℕ) (ks : List Key) (past : List Event)
    → was_asked port past ks n ≡ is_later (last_error (codes "ASK" ++ place port (first_slot ks) n) ks past) (last_import (first_slot ks) n past)
asked_later port n ks [] = refl
asked_later port n ks (e ∷ past) =
    one_later (is_ask port ks n e) (is_import (first_slot ks) n e) (was_asked port past ks n) (length past)
    (last_error (codes "ASK" ++ place port (first_slot ks) n) ks past) (last_import (first_slot ks) n past)
    (ask_or_import port (first_slot ks) n ks e) (error_below _ ks past) (import_below (first_slot ks) n past) (asked_later port n ks past)
    ∙ ap (λ b. is_later (cond b (Some (length past)) (last_error (codes "ASK" ++ place port (first_slot ks) n) ks past)) (last_import (first_slot ks) n (e ∷ past)))
    (ask_same port n ks e)

same_some : (x y : ℕ) → Some x ≡ Some y → x ≡ y
same_some x y e = cc

-- where the keys have this slot and the node imports it since this place, the places decide
pub by_places : (port n : ℕ) (rows : List Places) (ks : List Key) (s since : ℕ) (text : List ℕ) (errors : Errors) (past : List Event)
    → one_slot ks ≡ Some s → since_in rows n s ≡ Some since → text ≡ codes "ASK" ++ place port s n
    → AreErrorsOf errors past → ArePlacesOf rows past
    → is_after (place_in errors text ks) since ≡ (is_cross ks || is_none (since_in rows n (first_slot ks)) || was_asked port past ks n)
by_places port n rows ks s since text errors past one there ask told places = elim (cases_Bool (is_cross ks)) [
  | inl t ↦ absurd (true≢false (sym (ap is_some one) ∙ ap (λ c. is_some (cond c None (Some (first_slot ks)))) t))
  | inr f ↦ (let own : first_slot ks ≡ s = same_some (first_slot ks) s (sym (ap (λ c. cond c None (Some (first_slot ks))) f) ∙ one) in
      let mark : since_in rows n (first_slot ks) ≡ Some since = ap (since_in rows n) own ∙ there in
      ap (λ o. is_after o since) (told text ks ∙ ap (λ u. last_error u ks past) (ask ∙ ap (λ x. codes "ASK" ++ place port x n) (sym own)))
      ∙ ap (is_later (last_error (codes "ASK" ++ place port (first_slot ks) n) ks past)) (sym (places n (first_slot ks) since mark))
      ∙ sym (asked_later port n ks past)
      ∙ sym (ap (λ c. c || is_none (since_in rows n (first_slot ks)) || was_asked port past ks n) f
      ∙ ap (λ o. is_none o || was_asked port past ks n) mark))
]

-- texts that stand elsewhere
borrowed_same : (xs ys : List (Bor (List ℕ)))
    → pointwise (λ a b. pointwise nat_eq a.now b.now) xs ys ≡ pointwise (pointwise nat_eq) (map (λ b. b.now) xs) (map (λ b. b.now) ys)
borrowed_same [] [] = refl
borrowed_same [] (y ∷ ys) = refl
borrowed_same (x ∷ xs) [] = refl
borrowed_same (x ∷ xs) (y ∷ ys) = ap (λ b. pointwise nat_eq x.now y.now && b) (borrowed_same xs ys)

-- an error that is there keeps its stand and takes the place; any other goes last
module _ {V : Type 0} (items : V → List (Bor (List ℕ))) where
  pub looked_up : (xs : List (Bor (List ℕ))) (es : List (V × ℕ))
      → lookup (λ v. pointwise (λ a b. pointwise nat_eq a.now b.now) xs (items v)) es
      ≡ lookup (pointwise (pointwise nat_eq) (map (λ b. b.now) xs)) (map (λ p. (map (λ b. b.now) (items p.0), p.1)) es)
  looked_up xs [] = refl
  looked_up xs (e ∷ es) = λ i. cond (borrowed_same xs (items e.0) i) (Some e.1) (looked_up xs es i)

  pub placed : (es : List (V × ℕ)) (v : V) (place : ℕ) (q : List Key)
      → lookup (pointwise (pointwise nat_eq) q) (map (λ p. (map (λ b. b.now) (items p.0), p.1))
      (insert_entry (λ x y. pointwise (λ a b. pointwise nat_eq a.now b.now) (items x) (items y)) es v place))
      ≡ cond (pointwise (pointwise nat_eq) q (map (λ b. b.now) (items v))) (Some place)
      (lookup (pointwise (pointwise nat_eq) q) (map (λ p. (map (λ b. b.now) (items p.0), p.1)) es))
  placed [] v place q = refl
  placed (e ∷ es) v place q = elim (cases_Bool (pointwise (λ a b. pointwise nat_eq a.now b.now) (items v) (items e.0))) [
    | inl t ↦ ap (λ c. found (if c then (e.0, place) ∷ es else e ∷ insert_entry (λ x y. pointwise (λ a b. pointwise nat_eq a.now b.now) (items x) (items y)) es v place)) t
        ∙ there (pointwise (pointwise nat_eq) q (texts e.0)) (found es) e.1
        ∙ ap (λ ts. cond (pointwise (pointwise nat_eq) q ts) (Some place) (found (e ∷ es))) (sym (keys_same (texts v) (texts e.0) (sym (borrowed_same (items v) (items e.0)) ∙ t)))
    | inr f ↦ ap (λ c. found (if c then (e.0, place) ∷ es else e ∷ insert_entry (λ x y. pointwise (λ a b. pointwise nat_eq a.now b.now) (items x) (items y)) es v place)) f
        ∙ ap (cond (pointwise (pointwise nat_eq) q (texts e.0)) (Some e.1)) (placed es v place q)
        ∙ turned (pointwise (pointwise nat_eq) q (texts e.0)) (pointwise (pointwise nat_eq) q (texts v)) (found es) e.1 (apart f)
  ]
    where
      texts : V → List (List ℕ)
      texts x = map (λ b. b.now) (items x)

      found : List (V × ℕ) → Option ℕ
      found xs = lookup (pointwise (pointwise nat_eq) q) (map (λ p. (map (λ b. b.now) (items p.0), p.1)) xs)

      there : (b : Bool) (o : Option ℕ) (old : ℕ) → cond b (Some place) o ≡ cond b (Some place) (cond b (Some old) o)
      there true o old = refl
      there false o old = refl

      turned : (b c : Bool) (o : Option ℕ) (old : ℕ) → (b ≡ true → c ≡ true → ⊥) → cond b (Some old) (cond c (Some place) o) ≡ cond c (Some place) (cond b (Some old) o)
      turned true true o old h = absurd (h refl refl)
      turned true false o old h = refl
      turned false c o old h = refl

      -- the two errors are not the same
      apart : pointwise (λ a b. pointwise nat_eq a.now b.now) (items v) (items e.0) ≡ false
          → pointwise (pointwise nat_eq) q (texts e.0) ≡ true → pointwise (pointwise nat_eq) q (texts v) ≡ true → ⊥
      apart f here new =
          let same : texts v ≡ texts e.0 = sym (keys_same q (texts v) new) ∙ keys_same q (texts e.0) here in
          true≢false (sym (keys_themselves (texts v)) ∙ ap (pointwise (pointwise nat_eq) (texts v)) same ∙ sym (borrowed_same (items v) (items e.0)) ∙ f)
