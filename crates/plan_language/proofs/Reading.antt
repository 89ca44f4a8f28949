-- The lines of a text, one after the other.
use Rattle.std.proofs.Common.{◌≡◌, ◌≢◌, ℕ, ◌+◌, ◌≤◌, Bool, true, false, cond, List, [], ◌∷◌, ◌++◌, length, Ok, Err, refl}
use Rattle.std.proofs.Common.{Option, Some}
use Rattle.std.proofs.Common.{◌∙◌, sym, ap, codes}
use Rattle.std.proofs.Common.{arith, append_assoc, append-nil}
use Rattle.byte_texts.proofs.Parting.{parts_some}
use Rattle.node_names.specs.Names.{Names}
use Rattle.plan_language.specs.Limits.{limits_of}
use Rattle.plan_language.specs.Texts.{parts, is_text, plan_in_lines, plan_after, version_in, lines_in, command_in}
use Rattle.plan_language.specs.Texts.{line_then, parse_end, fault, ParsedLines, with_line, as_plan}
use Rattle.plan_language.specs.Texts.{any_plan_after, any_plan_in_lines, any_plan_of_text, listing_version_in}
use Rattle.plan_language.specs.Texts.{begins_with_node, is_of_node, name_in, name_then, names_in}
use Rattle.plan_language.specs.LinesLeft.{read_past, fault_of, after}
use Rattle.plan_language.specs.declared.line.Line.{Line}
use Rattle.plan_language.specs.declared.parse_fault.ParseCause.{ParseCause}
use Rattle.plan_language.specs.declared.parse_fault.ParseCause.TheVariants.{NoEnd}

pub no_header : (lines : List (List ℕ)) → length lines ≤ 1 → plan_in_lines lines ≡ fault NoEnd 1
no_header [] h = refl
no_header (t ∷ []) h = refl
no_header (t ∷ (next ∷ more)) h = absurd (omega arith)

pub header : (t : List ℕ) (rest : List (List ℕ)) → rest ≢ []
    → plan_in_lines (t ∷ rest) ≡ plan_after (version_in t) rest
header t [] h = absurd (h refl)
header t (next ∷ more) h = refl

pub no_line : (names : Option Names) (v n before : ℕ) (lines : List (List ℕ)) → length lines ≤ 1
    → lines_in names v n before lines ≡ fault NoEnd n
no_line names v n before [] h = refl
no_line names v n before (t ∷ []) h = refl
no_line names v n before (t ∷ (next ∷ more)) h = absurd (omega arith)

pub one_line : (names : Option Names) (v n before : ℕ) (t : List ℕ) (rest : List (List ℕ)) → rest ≢ []
    → lines_in names v n before (t ∷ rest)
    ≡ cond (is_text (codes "end") t) (parse_end (n + 1) rest)
    (line_then (limits_of names) n before (command_in names v (parts 32 t))
    (λ count. lines_in names v (n + 1) count rest))
one_line names v n before t [] h = absurd (h refl)
one_line names v n before t (next ∷ more) h = refl

-- a text that is not the end stands before the lines that are left
pub past_line : (names : Option Names) (v n before : ℕ) (t : List ℕ) (lines rest : List (List ℕ)) (ends : Bool)
    → (lines ≡ t ∷ rest) × (rest ≢ []) → ends ≡ is_text (codes "end") t → ends ≡ false
    → lines_in names v n before lines
    ≡ read_past (record { version = v; names = names; number = n; before = before; lines = rest }) t
past_line names v n before t lines rest ends h is goes_on =
    ap (λ ls. lines_in names v n before ls) h.0
    ∙ one_line names v n before t rest h.1
    ∙ ap (λ b. cond b (parse_end (n + 1) rest)
    (read_past (record { version = v; names = names; number = n; before = before; lines = rest }) t))
    (sym is ∙ goes_on)

-- ---- the lines of nodes

pub any_header : (t : List ℕ) (rest : List (List ℕ)) → rest ≢ []
    → any_plan_in_lines (t ∷ rest) ≡ any_plan_after (listing_version_in t) t rest
any_header t [] h = absurd (h refl)
any_header t (next ∷ more) h = refl

pub any_listed : (t head rest : List ℕ) (v : ℕ) → parts 10 t ≡ head ∷ parts 10 rest → Some v ≡ listing_version_in head
    → any_plan_of_text t ≡ names_in v 2 [] (parts 10 rest)
any_listed t head rest v is told =
    ap any_plan_in_lines is ∙ any_header head (parts 10 rest) (parts_some 10 rest)
    ∙ ap (λ o. any_plan_after o head (parts 10 rest)) (sym told)

-- the first command stands where no line of a node does
pub no_names : (v n : ℕ) (names : Names) (lines : List (List ℕ)) → begins_with_node lines ≡ false
    → names_in v n names lines ≡ as_plan v (Some names) (lines_in (Some names) v n 0 lines)
no_names v n names [] h = refl
no_names v n names (t ∷ []) h = refl
no_names v n names (t ∷ (next ∷ more)) h =
    ap (λ b. cond b
    (name_then n (name_in names (parts 32 t)) (λ p. names_in v (n + 1) (names ++ p ∷ []) (next ∷ more)))
    (as_plan v (Some names) (lines_in (Some names) v n 0 (t ∷ (next ∷ more))))) h

pub one_name : (v n : ℕ) (names : Names) (t : List ℕ) (rest : List (List ℕ)) → rest ≢ []
    → is_of_node (parts 32 t) ≡ true
    → names_in v n names (t ∷ rest)
    ≡ name_then n (name_in names (parts 32 t)) (λ p. names_in v (n + 1) (names ++ p ∷ []) rest)
one_name v n names t [] g h = absurd (g refl)
one_name v n names t (next ∷ more) g h =
    ap (λ b. cond b
    (name_then n (name_in names (parts 32 t)) (λ p. names_in v (n + 1) (names ++ p ∷ []) (next ∷ more)))
    (as_plan v (Some names) (lines_in (Some names) v n 0 (t ∷ (next ∷ more))))) h

pub name_taken : (v n : ℕ) (names seen : Names) (lines : List (List ℕ)) (t more : List ℕ) (p : ℕ × List ℕ)
    → (lines ≡ t ∷ parts 10 more) × (is_of_node (parts 32 t) ≡ true) → seen ≡ names → Ok p ≡ name_in seen (parts 32 t)
    → names_in v n names lines ≡ names_in v (n + 1) (names ++ p ∷ []) (parts 10 more)
name_taken v n names seen lines t more p is same told =
    ap (λ ls. names_in v n names ls) is.0
    ∙ one_name v n names t (parts 10 more) (parts_some 10 more) is.1
    ∙ ap (λ ns. name_then n (name_in ns (parts 32 t)) (λ q. names_in v (n + 1) (names ++ q ∷ []) (parts 10 more)))
    (sym same)
    ∙ ap (λ r. name_then n r (λ q. names_in v (n + 1) (names ++ q ∷ []) (parts 10 more))) (sym told)

pub name_refused : (v n : ℕ) (names seen : Names) (lines : List (List ℕ)) (t more : List ℕ) (cause : ParseCause)
    → (lines ≡ t ∷ parts 10 more) × (is_of_node (parts 32 t) ≡ true) → seen ≡ names
    → Err cause ≡ name_in seen (parts 32 t) → names_in v n names lines ≡ fault cause n
name_refused v n names seen lines t more cause is same told =
    ap (λ ls. names_in v n names ls) is.0
    ∙ one_name v n names t (parts 10 more) (parts_some 10 more) is.1
    ∙ ap (λ ns. name_then n (name_in ns (parts 32 t)) (λ q. names_in v (n + 1) (names ++ q ∷ []) (parts 10 more)))
    (sym same)
    ∙ ap (λ r. name_then n r (λ q. names_in v (n + 1) (names ++ q ∷ []) (parts 10 more))) (sym told)

-- ---- lines, one after the other

pub fault_with : (line : Line) (r : ParsedLines) → fault_of (with_line line r) ≡ fault_of r
fault_with line (Ok lines) = refl
fault_with line (Err f) = refl

pub after_none : (r : ParsedLines) → after [] r ≡ r
after_none (Ok lines) = refl
after_none (Err f) = refl

pub after_more : (prefix : List Line) (line : Line) (r : ParsedLines)
    → after prefix (with_line line r) ≡ after (prefix ++ line ∷ []) r
after_more prefix line (Ok lines) = ap Ok (sym (append_assoc prefix (line ∷ []) lines))
after_more prefix line (Err f) = refl

pub after_end : (prefix : List Line) → after prefix (Ok []) ≡ Ok prefix
after_end prefix = ap Ok (append-nil prefix)

pub ruleset read_after = (after_none, after_more, after_end)
