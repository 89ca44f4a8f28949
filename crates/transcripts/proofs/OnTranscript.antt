-- What stands on a transcript after several texts.
use Rattle.std.proofs.Common.{ℕ, ◌+◌, List, [], ◌∷◌, ◌++◌, sym, ap, ◌∙◌, append_assoc}
use Rattle.std.proofs.lemmas.List.{append-nil}
use Rattle.transcripts.specs.declared.transcript.Transcript.{Transcript}
use Rattle.transcripts.specs.Printing.{line, bulk_text}
use Rattle.transcripts.specs.CallTexts.{key_word, key_words}
use Rattle.transcripts.specs.OutcomeTexts.{Prints, closed, key_lines}
use Rattle.transcripts.proofs.Printed.{Grows}

prints_then : (a b c : Transcript) (t u : List ℕ) (m n : ℕ) → Prints a b t m → Prints b c u n → Prints a c (t ++ u) n
prints_then a b c t u m n first second = (rw (second.0, first.0) (append_assoc a.printed.items t u), second.1)

-- a line in three parts
pub three_print : (a b c d : Transcript) (t u v : List ℕ) (l m n : ℕ) → Prints a b t l → Prints b c u m
    → Prints c d (closed v) n → Prints a d (closed (t ++ u ++ v)) n
three_print a b c d t u v l m n first second third =
    rw (append_assoc (t ++ u) v (10 ∷ []))
    (prints_then a c d (t ++ u) (closed v) m n (prints_then a b c t u l m first second) third)

-- a line in four parts
pub four_print : (a b c d e : Transcript) (t u v w : List ℕ) (k l m n : ℕ) → Prints a b t k → Prints b c u l
    → Prints c d v m → Prints d e (closed w) n → Prints a e (closed (t ++ u ++ v ++ w)) n
four_print a b c d e t u v w k l m n first second third fourth =
    three_print a c d e (t ++ u) v w l m n (prints_then a b c t u k l first second) third fourth

pub key_lines-grows : Grows (λ k. line 2 36 (bulk_text k)) key_lines
key_lines-grows [] k = append-nil (line 2 36 (bulk_text k))
key_lines-grows (j ∷ ks) k =
    ap (λ (u : List ℕ). line 2 36 (bulk_text j) ++ u) (key_lines-grows ks k)
    ∙ sym (append_assoc (line 2 36 (bulk_text j)) (key_lines ks) (line 2 36 (bulk_text k)))

pub key_words-grows : Grows (λ k. 32 ∷ key_word k) key_words
key_words-grows [] k = append-nil (32 ∷ key_word k)
key_words-grows (j ∷ ks) k =
    ap (λ (u : List ℕ). (32 ∷ key_word j) ++ u) (key_words-grows ks k)
    ∙ sym (append_assoc (32 ∷ key_word j) (key_words ks) (32 ∷ key_word k))

-- one text more, where no failure is reported
pub prints_more : (a b c : Transcript) (t u : List ℕ) → Prints a b t a.status → Prints b c u b.status
    → Prints a c (t ++ u) a.status
prints_more a b c t u first second =
    (rw (second.0, first.0) (append_assoc a.printed.items t u), second.1 ∙ first.1)

pub four_parts : (a b c d e : Transcript) (t u v w : List ℕ) → Prints a b t a.status → Prints b c u b.status
    → Prints c d v c.status → Prints d e w d.status → Prints a e (t ++ u ++ v ++ w) a.status
four_parts a b c d e t u v w first second third fourth =
    prints_more a d e (t ++ u ++ v) w (prints_more a c d (t ++ u) v (prints_more a b c t u first second) third) fourth

-- the end of a line, where no failure is reported
pub closes : (a b c : Transcript) (t v : List ℕ) → Prints a b t a.status → Prints b c (closed v) b.status
    → Prints a c (closed (t ++ v)) a.status
closes a b c t v first second = rw (append_assoc t v (10 ∷ [])) (prints_more a b c t (closed v) first second)
