-- Marks by slots.
use Rattle.std.proofs.Common.{◌≡◌, ◌≢◌, ℕ, ◌<◌, Bool, true, false, cond, eqb, List, [], ◌∷◌, length, Option, Some, None}
use Rattle.std.proofs.Common.{is_some, sym, refl, ap, ◌∙◌, subst, inl, inr, nat_cmp, is_eq, Ordering, Less, Equal}
use Rattle.std.proofs.Common.{Greater, arith}
use Rattle.std.proofs.lemmas.Bool.{cases_eq, ne_eqb, eq-eqb}
use Rattle.std.specs.Cmp.{nat_cmp_total, tied_itself}
use Rattle.std.specs.FinMap as finite
use Rattle.std.specs.FinMap.{get-empty, get-insert, nat_cmp-IsAntisymmetric}
use Rattle.std.specs.Option.{option_or}
use Rattle.slot_marks.specs.Rows.{AreOfSlots}
use Rattle.slot_marks.specs.Tables.{Marks}
use Rattle.std.specs.Prelude.{IfSome}
use Rattle.std.proofs.lemmas.List.Quantifiers.{position-Some}
use Rattle.listed_nodes.specs.declared.slot_word.SlotWord.{SlotWord}
use Rattle.listed_nodes.specs.declared.slot_word.SlotWord.TheVariants.{Slots, Migrating, Importing}
use Rattle.server_commands.specs.Servers.{nobody}
use Rattle.server_commands.specs.declared.book.Server.{Server}
use Rattle.byte_texts.specs.Words.{is}
use Rattle.cluster_views.specs.Numbers.{first_given}
use Rattle.cluster_views.specs.Views.{imports, migrates, number_of}
use Rattle.cluster_views.proofs.Firsts.{none_is, or_none}

same_slot : (t s : ℕ) → is_eq (nat_cmp t s) ≡ eqb t s
same_slot t s = elim (cases_eq t s) [
  | inl e ↦ subst (λ u. is_eq (nat_cmp t u) ≡ eqb t u) e (ap is_eq (tied_itself nat_cmp_total t) ∙ sym (eq-eqb t t refl))
  | inr e ↦ apart (nat_cmp t s) refl e ∙ sym (ne_eqb t s e)
]
  where
    apart : (r : Ordering) → nat_cmp t s ≡ r → t ≢ s → is_eq r ≡ false
    apart Less p e = refl
    apart Equal p e = absurd (e (nat_cmp-IsAntisymmetric t s p))
    apart Greater p e = refl

pub inserted : (m : Marks) (s v t : ℕ) → finite.get (finite.insert m s v) t ≡ cond (eqb t s) (Some v) (finite.get m t)
inserted m s v t = get-insert nat_cmp_total m s v t ∙ ap (λ b. cond b (Some v) (finite.get m t)) (same_slot t s)

-- a mark where none was
pub put_get : (m : Marks) (slot v : ℕ) → is_some (finite.get m slot) ≡ false → (s : ℕ)
    → finite.get (finite.insert m slot v) s ≡ option_or (finite.get m s) (cond (eqb s slot) (Some v) None)
put_get m slot v none s = elim (cases_eq s slot) [
  | inl e ↦
      let there : finite.get m s ≡ None = ap (finite.get m) e ∙ none_is (finite.get m slot) none in
      rw (inserted m slot v s, eq-eqb s slot e, there) refl
  | inr e ↦ rw (inserted m slot v s, ne_eqb s slot e) (sym (or_none (finite.get m s)))
]

pub put_slots : (m : Marks) (slot v : ℕ) → slot < 16384 → AreOfSlots m → AreOfSlots (finite.insert m slot v)
put_slots m slot v lt of s le = rw (inserted m slot v s, ne_eqb s slot (omega arith)) (of s le)

-- ---- all marks that words are

pub no_marks : (m : Marks) → m ≡ finite.empty → (s : ℕ) → finite.get m s ≡ None
no_marks m e s = ap (λ (n : Marks). finite.get n s) e ∙ get-empty nat_cmp s

-- of nodes below this one
abbrev pub Below : ℕ → Option ℕ → Type 0
Below n o = IfSome o (λ m. m < n)

pub below_chosen : (n : ℕ) (b : Bool) (o : Option ℕ) → Below n o → Below n (cond b o None)
below_chosen n true o h = h
below_chosen n false o h = tt

pub below_or : (n : ℕ) (o r : Option ℕ) → Below n o → Below n r → Below n (option_or o r)
below_or n None r h k = k
below_or n (Some m) r h k = h

pub named_below : (b : List Server) (name : List ℕ) → Below (length b) (number_of b name)
named_below b name = by (number_of b name) refl
  where
    by : (o : Option ℕ) → number_of b name ≡ o → Below (length b) o
    by None is = tt
    by (Some m) found = (position-Some (λ s. is name s.name) b m nobody found).0

pub going_below : (b : List Server) (s : ℕ) (ws : List SlotWord) → Below (length b) (first_given (migrates b s) ws)
going_below b s [] = tt
going_below b s (Slots first last ∷ ws) = going_below b s ws
going_below b s (Migrating t name ∷ ws) =
    below_or (length b) (cond (eqb s t) (number_of b name) None) (first_given (migrates b s) ws)
    (below_chosen (length b) (eqb s t) (number_of b name) (named_below b name)) (going_below b s ws)
going_below b s (Importing t name ∷ ws) = going_below b s ws

pub coming_below : (b : List Server) (s : ℕ) (ws : List SlotWord) → Below (length b) (first_given (imports b s) ws)
coming_below b s [] = tt
coming_below b s (Slots first last ∷ ws) = coming_below b s ws
coming_below b s (Migrating t name ∷ ws) = coming_below b s ws
coming_below b s (Importing t name ∷ ws) =
    below_or (length b) (cond (eqb s t) (number_of b name) None) (first_given (imports b s) ws)
    (below_chosen (length b) (eqb s t) (number_of b name) (named_below b name)) (coming_below b s ws)
