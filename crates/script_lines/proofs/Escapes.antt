-- What the bytes of a word stand for.
use Rattle.std.proofs.Common.{◌≡◌, ℕ, Bool, true, false, ◌||◌, List, [], ◌∷◌, ◌++◌, Result, Ok, Err, refl, sym, ap, ◌∙◌, append_assoc, Option, Some}
use Rattle.std.specs.Prelude.{nat_eq}
use Rattle.std.specs.List.{list_any}
use Rattle.std.proofs.lemmas.Bool.{true≢false}
use Rattle.script_lines.specs.declared.fault.ScriptFault.{ScriptFault}
use Rattle.script_lines.specs.Faults.{after}
use Rattle.script_lines.specs.Words.{unescape, with_byte}

-- a word without a backslash stands for itself
pub plain : (w : List ℕ) → list_any (λ b. nat_eq b 92) w ≡ false → unescape w ≡ Ok w
plain [] h = refl
plain (b ∷ w) h = by (nat_eq b 92) refl h (plain w)
  where
    by : (c : Bool) → nat_eq b 92 ≡ c → (c || list_any (λ b. nat_eq b 92) w) ≡ false → (list_any (λ b. nat_eq b 92) w ≡ false → unescape w ≡ Ok w) → unescape (b ∷ w) ≡ Ok (b ∷ w)
    by true e k rest = absurd (true≢false k)
    by false e k rest = rw (e, rest k) refl

pub after_none : (r : Result (List ℕ) ScriptFault) → after r (λ t. Ok ([] ++ t)) ≡ r
after_none (Ok t) = refl
after_none (Err e) = refl

pub after_more : (r : Result (List ℕ) ScriptFault) (s : List ℕ) (b : ℕ) → after r (λ t. Ok ((s ++ b ∷ []) ++ t)) ≡ after (after r (λ t. Ok (b ∷ t))) (λ t. Ok (s ++ t))
after_more (Ok t) s b = ap (λ x. Ok x) (append_assoc s (b ∷ []) t)
after_more (Err e) s b = refl

pub one_more_byte : (w rest remaining s s' : List ℕ) (b : ℕ) (o : Option ℕ) → unescape rest ≡ with_byte o (unescape remaining) → o ≡ Some b → s' ≡ s ++ b ∷ []
    → after (unescape rest) (λ t. Ok (s ++ t)) ≡ unescape w → after (unescape remaining) (λ t. Ok (s' ++ t)) ≡ unescape w
one_more_byte w rest remaining s s' b o e f g h =
    ap (λ x. after (unescape remaining) (λ t. Ok (x ++ t))) g ∙ after_more (unescape remaining) s b
    ∙ ap (λ r. after r (λ t. Ok (s ++ t))) (sym (e ∙ ap (λ x. with_byte x (unescape remaining)) f)) ∙ h
