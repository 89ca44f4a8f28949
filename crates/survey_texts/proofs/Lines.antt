-- The lines of a text that tells IDs, one after the other.
use Rattle.std.proofs.Common.{◌≡◌, ℕ, ◌+◌, true, false, ◌==◌, List, [], ◌∷◌, ◌++◌, length, None, Some}
use Rattle.std.proofs.Common.{Result, Ok, Err, append_assoc, refl, sym, ap, ◌∙◌, arith}
use Rattle.std.proofs.lemmas.List.{length-append}
use Rattle.byte_texts.specs.Parts.{parts}
use Rattle.survey_texts.specs.Expecting.{IsNotRead, IsRead, IsUnexpected, goes_on, ids_from, ids_in, is_passed}
use Rattle.survey_texts.specs.Expecting.{line_then, node_of_words, with_id}
use Rattle.survey_texts.specs.declared.expect_fault.ExpectFault.{ExpectFault}
use Rattle.survey_texts.specs.declared.expect_fault.ExpectFault.TheVariants.{Line, Memory}

abbrev pub Ids : Type 0
Ids = Result (List (List ℕ)) ℕ

pub nothing_yet : (r : Ids) → goes_on [] r ≡ r
nothing_yet (Ok ids) = refl
nothing_yet (Err line) = refl

-- the line is not what stands after the last line feed
pub as_line : (turn line : ℕ) (t : List ℕ) (more : List (List ℕ)) → ((length t ≡ 0) → (more ≡ []) → ⊥)
    → ids_from turn line (t ∷ more)
    ≡ line_then turn line t (ids_from turn (line + 1) more) (ids_from (turn + 1) (line + 1) more)
as_line turn line [] [] some = absurd (some refl refl)
as_line turn line [] (next ∷ more) some = refl
as_line turn line (b ∷ t) more some = refl

-- a line was read
pub one_read : (found found' : List (List ℕ)) (line : ℕ) (t : List ℕ) (more : List (List ℕ))
    → ((length t ≡ 0) → (more ≡ []) → ⊥) → IsRead found t line found'
    → goes_on found (ids_from (length found) line (t ∷ more)) ≡ goes_on found' (ids_from (length found') (line + 1) more)
one_read found found' line t more some read =
    ap (goes_on found) (as_line (length found) line t more some) ∙ read (λ turn. ids_from turn (line + 1) more)

-- it is none
pub one_refused : (found : List (List ℕ)) (line : ℕ) (t : List ℕ) (more : List (List ℕ))
    → ((length t ≡ 0) → (more ≡ []) → ⊥)
    → ((rest : ℕ → Ids) → line_then (length found) line t (rest (length found)) (rest (length found + 1)) ≡ Err line)
    → goes_on found (ids_from (length found) line (t ∷ more)) ≡ Err line
one_refused found line t more some refused =
    ap (goes_on found) (as_line (length found) line t more some ∙ refused (λ turn. ids_from turn (line + 1) more))

-- by the fault
pub refused_line : (text : List ℕ) (found : List (List ℕ)) (line : ℕ) (t : List ℕ) (lines more : List (List ℕ)) (e : ExpectFault)
    → ids_in text ≡ goes_on found (ids_from (length found) line lines) → lines ≡ t ∷ more
    → ((length t ≡ 0) → (more ≡ []) → ⊥) → IsNotRead found t line e → IsUnexpected text e
refused_line text found line t lines more Memory before begins some h = tt
refused_line text found line t lines more (Line n) before begins some h =
    before ∙ ap (λ (ls : List (List ℕ)). goes_on found (ids_from (length found) line ls)) begins
    ∙ one_refused found line t more some h.1 ∙ ap (λ k. Err k) (sym h.0)

-- ---- one line

pub passed : (found : List (List ℕ)) (t : List ℕ) (line : ℕ) → is_passed t ≡ true → IsRead found t line found
passed found t line is rest = rw is refl

pub no_node : (found : List (List ℕ)) (t : List ℕ) (line : ℕ) → is_passed t ≡ false → node_of_words (parts 32 t) ≡ None
    → (rest : ℕ → Ids) → line_then (length found) line t (rest (length found)) (rest (length found + 1)) ≡ Err line
no_node found t line is none rest = rw (is, none) refl

pub no_turn : (found : List (List ℕ)) (t : List ℕ) (line n : ℕ) (name : List ℕ) → is_passed t ≡ false
    → node_of_words (parts 32 t) ≡ Some (n, name) → (n == length found) ≡ false
    → (rest : ℕ → Ids) → line_then (length found) line t (rest (length found)) (rest (length found + 1)) ≡ Err line
no_turn found t line n name is some other rest = rw (is, some, other) refl

named : (found : List (List ℕ)) (name : List ℕ) (r : Ids) → goes_on found (with_id name r) ≡ goes_on (found ++ name ∷ []) r
named found name (Ok ids) = ap (λ (xs : List (List ℕ)). Ok xs) (sym (append_assoc found (name ∷ []) ids))
named found name (Err line) = refl

pub node_read : (found found' : List (List ℕ)) (t : List ℕ) (line n : ℕ) (name : List ℕ) → is_passed t ≡ false
    → node_of_words (parts 32 t) ≡ Some (n, name) → (n == length found) ≡ true → found' ≡ found ++ name ∷ []
    → IsRead found t line found'
node_read found found' t line n name is some turn put rest =
    let many : length found + 1 ≡ length found' = omega (arith, ap length put, length-append found (name ∷ [])) in
    rw (is, some, turn) (
    named found name (rest (length found + 1))
    ∙ ap (λ (xs : List (List ℕ)). goes_on xs (rest (length found + 1))) (sym put)
    ∙ ap (λ k. goes_on found' (rest k)) many)
