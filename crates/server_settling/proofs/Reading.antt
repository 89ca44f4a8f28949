-- What was read, and then what is left to be read.
use Rattle.std.proofs.Common.{◌≡◌, ℕ, List, [], ◌∷◌, ◌++◌, Option, None, Some, option_map, refl, sym, ap, append_assoc}
use Rattle.std.proofs.Common.{append-nil, ◌<◌, length, arith}
use Rattle.byte_texts.specs.Parts.{parts}
use Rattle.listed_nodes.specs.Names.{if_there}
use Rattle.server_settling.specs.Clients.{Connection, client_in, late_ids, late_of, lines_in}

abbrev pub goes_on : List ℕ → Option (List ℕ) → Option (List ℕ)
goes_on found rest = option_map (λ xs. found ++ xs) rest

pub nothing_yet : (rest : Option (List ℕ)) → goes_on [] rest ≡ rest
nothing_yet None = refl
nothing_yet (Some xs) = refl

one_more : (host : List ℕ) (found : List ℕ) (x : Connection) (rest : Option (List Connection))
    → goes_on found (option_map (late_ids host) (if_there rest (λ xs. Some (x ∷ xs))))
    ≡ goes_on (found ++ late_of host x) (option_map (late_ids host) rest)
one_more host found x None = refl
one_more host found x (Some xs) = ap (λ t. Some t) (sym (append_assoc found (late_of host x) (late_ids host xs)))

pub at_end : (host found : List ℕ) → goes_on found (option_map (late_ids host) (Some [])) ≡ Some found
at_end host found = ap (λ t. Some t) (append-nil found)

pub line_read : (host found : List ℕ) (t : List ℕ) (lines : List (List ℕ)) (x : Connection) → (lines ≡ [] → ⊥)
    → client_in (parts 32 t) ≡ Some x
    → goes_on found (option_map (late_ids host) (lines_in (t ∷ lines)))
    ≡ goes_on (found ++ late_of host x) (option_map (late_ids host) (lines_in lines))
line_read host found t [] x some is = absurd (some refl)
line_read host found t (next ∷ more) x some is = rw is (one_more host found x (lines_in (next ∷ more)))

pub no_line : (host found : List ℕ) (t : List ℕ) (lines : List (List ℕ)) → (lines ≡ [] → ⊥)
    → client_in (parts 32 t) ≡ None → goes_on found (option_map (late_ids host) (lines_in (t ∷ lines))) ≡ None
no_line host found t [] some is = absurd (some refl)
no_line host found t (next ∷ more) some is = rw is refl

pub no_text : (t : List ℕ) → length t ≡ 0 → lines_in (t ∷ []) ≡ Some []
no_text [] h = refl
no_text (b ∷ t) h = absurd (omega arith)

pub some_text : (t : List ℕ) → 0 < length t → lines_in (t ∷ []) ≡ None
some_text [] h = absurd (omega arith)
some_text (b ∷ t) h = refl

pub ruleset lines_read = (nothing_yet, at_end, line_read, no_line, no_text, some_text)
