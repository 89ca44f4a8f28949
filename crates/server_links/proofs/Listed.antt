-- The bytes of a long list, part by part.
use Rattle.std.proofs.Common.{◌≡◌, ◌∙◌, ℕ, ◌+◌, ◌≤◌, List, [], ◌∷◌, ◌++◌, length, decimal, ap, sym, refl, subst, append_assoc, arith}
use Rattle.std.proofs.lemmas.List.{append-nil}
use Rattle.resp2_wire.specs.Encoding.{encoding, length_of, line, spellings}
use Rattle.resp2_wire.specs.Tree.{array, bulk}
use Rattle.server_links.specs.LongLists.{bulks, list_width}

length_of-bulks : (ts : List (List ℕ)) → length_of (bulks ts) ≡ length ts
length_of-bulks [] = refl
length_of-bulks (t ∷ ts) = let e = length_of-bulks ts in omega (arith, e)

spellings-bulks : (ts us : List (List ℕ)) → spellings (bulks (ts ++ us)) ≡ spellings (bulks ts) ++ spellings (bulks us)
spellings-bulks [] us = refl
spellings-bulks (t ∷ ts) us =
    ap (λ (xs : List ℕ). encoding (bulk t) ++ xs) (spellings-bulks ts us)
    ∙ sym (append_assoc (encoding (bulk t)) (spellings (bulks ts)) (spellings (bulks us)))

pub list_width-append : (ts us : List (List ℕ)) → list_width (ts ++ us) ≡ list_width ts + list_width us
list_width-append [] us = omega arith
list_width-append (t ∷ ts) us = let e = list_width-append ts us in omega (arith, e)

-- one more text behind those that have come
pub text_behind : (unread input piece mid rest : List ℕ) (ts : List (List ℕ)) (t : List ℕ)
    → unread ++ input ≡ spellings (bulks ts) ++ mid → mid ++ piece ≡ encoding (bulk t) ++ rest
    → unread ++ (input ++ piece) ≡ spellings (bulks (ts ++ t ∷ [])) ++ rest
text_behind unread input piece mid rest ts t before one =
    sym (append_assoc unread input piece) ∙ ap (λ (xs : List ℕ). xs ++ piece) before
    ∙ append_assoc (spellings (bulks ts)) mid piece ∙ ap (λ (xs : List ℕ). spellings (bulks ts) ++ xs) one
    ∙ sym (append_assoc (spellings (bulks ts)) (encoding (bulk t)) rest)
    ∙ ap (λ (xs : List ℕ). xs ++ rest)
    (ap (λ (xs : List ℕ). spellings (bulks ts) ++ xs) (sym (append-nil (encoding (bulk t)))) ∙ sym (spellings-bulks ts (t ∷ [])))

-- the texts behind the line that announces so many
pub list_behind : (unread first second mid rest : List ℕ) (ts : List (List ℕ)) (n : ℕ)
    → unread ++ first ≡ line 42 (decimal n) ++ mid → mid ++ second ≡ spellings (bulks ts) ++ rest → length ts ≡ n
    → unread ++ (first ++ second) ≡ encoding (array (bulks ts)) ++ rest
list_behind unread first second mid rest ts n begins behind many =
    sym (append_assoc unread first second) ∙ ap (λ (xs : List ℕ). xs ++ second) begins
    ∙ append_assoc (line 42 (decimal n)) mid second ∙ ap (λ (xs : List ℕ). line 42 (decimal n) ++ xs) behind
    ∙ sym (append_assoc (line 42 (decimal n)) (spellings (bulks ts)) rest)
    ∙ ap (λ (k : ℕ). (line 42 (decimal k) ++ spellings (bulks ts)) ++ rest) (sym many ∙ sym (length_of-bulks ts))
