-- The bytes of a bulk string, and of an array's header, part by part.
use Rattle.std.proofs.Common.{◌≡◌, ◌∙◌, ◌-◌, ℕ, true, List, [], ◌∷◌, ◌++◌, length, take, drop, decimal, ap, sym, refl, append_assoc}
use Rattle.std.proofs.lemmas.Bool.Decides.{Decides-eqb}
use Rattle.std.proofs.lemmas.List.{take-append-drop}
use Rattle.std.proofs.lemmas.Slice.Eq.{slice_eq-Decides}
use Rattle.std.specs.Cmp.Lexicographic.{pointwise}
use Rattle.std.specs.Prelude.{nat_eq}
use Rattle.resp2_wire.specs.Encoding.{encoding, line}
use Rattle.resp2_wire.specs.Tree.{bulk}

same : (s t : List ℕ) → pointwise nat_eq s t ≡ true → s ≡ t
same s t h = (slice_eq-Decides Decides-eqb s t _ refl).0 h

pub front_is : (s p x : List ℕ) → pointwise nat_eq (take (length p) s) p ≡ true → x ≡ drop (length p) s → s ≡ p ++ x
front_is s p x begins left =
    sym (take-append-drop (length p) s) ∙ ap (λ a. a ++ drop (length p) s) (same (take (length p) s) p begins)
    ∙ ap (λ b. p ++ b) (sym left)

pub end_is : (s p x : List ℕ) → pointwise nat_eq (drop (length s - length p) s) p ≡ true → x ≡ take (length s - length p) s
    → s ≡ x ++ p
end_is s p x ends left =
    sym (take-append-drop (length s - length p) s)
    ∙ ap (λ b. take (length s - length p) s ++ b) (same (drop (length s - length p) s) p ends)
    ∙ ap (λ a. a ++ p) (sym left)

pub behind : (rest first second digits text number : List ℕ) → rest ≡ digits ++ first → first ≡ (13 ∷ 10 ∷ []) ++ second
    → second ≡ text ++ 13 ∷ 10 ∷ [] → number ≡ digits → number ≡ decimal (length text)
    → rest ≡ decimal (length text) ++ (13 ∷ 10 ∷ [] ++ (text ++ 13 ∷ 10 ∷ []))
behind rest first second digits text number is begins ends equal spelled =
    is ∙ ap (λ xs. digits ++ xs) (begins ∙ ap (λ xs. (13 ∷ 10 ∷ []) ++ xs) ends)
    ∙ ap (λ d. d ++ ((13 ∷ 10 ∷ []) ++ (text ++ 13 ∷ 10 ∷ []))) (sym equal ∙ spelled)

pub whole_bulk : (bytes rest text : List ℕ) → bytes ≡ (36 ∷ []) ++ rest
    → rest ≡ decimal (length text) ++ (13 ∷ 10 ∷ [] ++ (text ++ 13 ∷ 10 ∷ [])) → bytes ≡ encoding (bulk text)
whole_bulk bytes rest text is behind =
    is ∙ ap (λ xs. 36 ∷ xs) (behind ∙ sym (append_assoc (decimal (length text)) (13 ∷ 10 ∷ []) (text ++ 13 ∷ 10 ∷ [])))
    ∙ sym (append_assoc (36 ∷ (decimal (length text) ++ 13 ∷ 10 ∷ [])) text (13 ∷ 10 ∷ []))

pub counted_behind : (rest first after digits number : List ℕ) (n : ℕ) → rest ≡ digits ++ first
    → first ≡ (13 ∷ 10 ∷ []) ++ after → number ≡ digits → number ≡ decimal n
    → rest ≡ decimal n ++ (13 ∷ 10 ∷ [] ++ after)
counted_behind rest first after digits number n is begins equal spelled =
    is ∙ ap (λ xs. digits ++ xs) begins ∙ ap (λ d. d ++ ((13 ∷ 10 ∷ []) ++ after)) (sym equal ∙ spelled)

pub whole_header : (bytes rest after : List ℕ) (n : ℕ) → bytes ≡ (42 ∷ []) ++ rest
    → rest ≡ decimal n ++ (13 ∷ 10 ∷ [] ++ after) → bytes ≡ line 42 (decimal n) ++ after
whole_header bytes rest after n is behind =
    is ∙ ap (λ xs. 42 ∷ xs) (behind ∙ sym (append_assoc (decimal n) (13 ∷ 10 ∷ []) after))
