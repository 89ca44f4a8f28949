-- What was read, and then what is left to be read.
use Rattle.std.proofs.Common.{◌≡◌, ℕ, List, [], ◌∷◌, ◌++◌, Option, None, Some, option_map, refl, sym, ap, append_assoc}
use Rattle.std.proofs.Common.{append-nil, ◌<◌, length, arith}
use Rattle.byte_texts.specs.Parts.{parts}
use Rattle.listed_nodes.specs.Names.{if_there}
use Rattle.listed_nodes.specs.Nodes.{line_in, lines_in}
use Rattle.listed_nodes.specs.SlotWords.{slot_word_in, slot_words_in}
use Rattle.listed_nodes.specs.declared.slot_word.SlotWord.{SlotWord}
use Rattle.listed_nodes.specs.declared.node_line.NodeLine.{NodeLine}

abbrev pub goes_on : {A : Type 0} → List A → Option (List A) → Option (List A)
goes_on found rest = option_map (λ xs. found ++ xs) rest

pub nothing_yet : {A : Type 0} (rest : Option (List A)) → goes_on [] rest ≡ rest
nothing_yet None = refl
nothing_yet (Some xs) = refl

pub one_more : {A : Type 0} (found : List A) (x : A) (rest : Option (List A))
    → goes_on found (if_there rest (λ xs. Some (x ∷ xs))) ≡ goes_on (found ++ x ∷ []) rest
one_more found x None = refl
one_more found x (Some xs) = ap (λ t. Some t) (sym (append_assoc found (x ∷ []) xs))

pub at_end : {A : Type 0} (found : List A) → goes_on found (Some []) ≡ Some found
at_end found = ap (λ t. Some t) (append-nil found)

pub word_read : (found : List SlotWord) (w : List ℕ) (ws : List (List ℕ)) (x : SlotWord) → slot_word_in (parts 45 w) ≡ Some x
    → goes_on found (slot_words_in (w ∷ ws)) ≡ goes_on (found ++ x ∷ []) (slot_words_in ws)
word_read found w ws x is = rw is (one_more found x (slot_words_in ws))

pub no_word : (found : List SlotWord) (w : List ℕ) (ws : List (List ℕ)) → slot_word_in (parts 45 w) ≡ None
    → goes_on found (slot_words_in (w ∷ ws)) ≡ None
no_word found w ws is = rw is refl

pub line_read : (found : List NodeLine) (t : List ℕ) (lines : List (List ℕ)) (x : NodeLine) → (lines ≡ [] → ⊥)
    → line_in (parts 32 t) ≡ Some x → goes_on found (lines_in (t ∷ lines)) ≡ goes_on (found ++ x ∷ []) (lines_in lines)
line_read found t [] x some is = absurd (some refl)
line_read found t (next ∷ more) x some is = rw is (one_more found x (lines_in (next ∷ more)))

pub no_line : (found : List NodeLine) (t : List ℕ) (lines : List (List ℕ)) → (lines ≡ [] → ⊥)
    → line_in (parts 32 t) ≡ None → goes_on found (lines_in (t ∷ lines)) ≡ None
no_line found t [] some is = absurd (some refl)
no_line found t (next ∷ more) some is = rw is refl

-- a line without link state is none
pub too_short : (ws : List (List ℕ)) → length ws < 8 → line_in ws ≡ None
too_short [] h = refl
too_short (a ∷ []) h = refl
too_short (a ∷ (b ∷ [])) h = refl
too_short (a ∷ (b ∷ (c ∷ []))) h = refl
too_short (a ∷ (b ∷ (c ∷ (d ∷ [])))) h = refl
too_short (a ∷ (b ∷ (c ∷ (d ∷ (e ∷ []))))) h = refl
too_short (a ∷ (b ∷ (c ∷ (d ∷ (e ∷ (f ∷ [])))))) h = refl
too_short (a ∷ (b ∷ (c ∷ (d ∷ (e ∷ (f ∷ (g ∷ []))))))) h = refl
too_short (a ∷ (b ∷ (c ∷ (d ∷ (e ∷ (f ∷ (g ∷ (k ∷ more)))))))) h = absurd (omega arith)

pub no_text : (t : List ℕ) → length t ≡ 0 → lines_in (t ∷ []) ≡ Some []
no_text [] h = refl
no_text (b ∷ t) h = absurd (omega arith)

pub some_text : (t : List ℕ) → 0 < length t → lines_in (t ∷ []) ≡ None
some_text [] h = absurd (omega arith)
some_text (b ∷ t) h = refl

pub ruleset lines_read = (nothing_yet, at_end, line_read, no_line, no_text, some_text)
