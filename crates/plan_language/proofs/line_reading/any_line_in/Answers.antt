use Rattle.std.proofs.Common.{◌≡◌, ℕ, Bool, true, false, cond, List, [], ◌∷◌, ◌++◌, ◌&&◌, Err, nat_eq, refl, sym}
use Rattle.std.proofs.Common.{ap, ◌∙◌, arith, rules}
use Rattle.std.specs.List.{list_all, onto_first}
use Rattle.plan_language.specs.Texts.{parts, is_word, row_in}
use Rattle.plan_language.specs.declared.parse_fault.ParseCause.TheVariants.{Verb}
use Rattle.plan_language.proofs.Exactly.{row_taken, row_refused}
use Rattle.plan_language.proofs.line_reading.any_line_in.Goals as goal

-- whether all words behind the first are words
abbrev others_are : List (List ℕ) → Bool
others_are [] = true
others_are (w ∷ ws) = list_all is_word ws

with_first : (x y : Bool) → y ≡ false → (x && y) ≡ false
with_first true y h = h
with_first false y h = refl

one_more : (b : ℕ) (ends : Bool) (ws : List (List ℕ)) → others_are ws ≡ false
    → others_are (cond ends ([] ∷ ws) (onto_first b ws)) ≡ false
one_more b ends [] h = cc
one_more b true (w ∷ ws) h = with_first (is_word w) (list_all is_word ws) h
one_more b false (w ∷ ws) h = h

before_space : (t : List ℕ) → others_are (parts 32 (t ++ 32 ∷ [])) ≡ false
before_space [] = refl
before_space (b ∷ t) = one_more b (nat_eq b 32) (parts 32 (t ++ 32 ∷ [])) (before_space t)

all_of : (ws : List (List ℕ)) → others_are ws ≡ false → list_all is_word ws ≡ false
all_of [] h = cc
all_of (w ∷ ws) h = with_first (is_word w) (list_all is_word ws) h

last_is_empty : (t front : List ℕ) → t ≡ front ++ 32 ∷ [] → list_all is_word (parts 32 t) ≡ false
last_is_empty t front is =
    ap (λ s. list_all is_word (parts 32 s)) is ∙ all_of (parts 32 (front ++ 32 ∷ [])) (before_space front)

pub returns-in-Some-clause-value : goal.returns-in-Some-clause-value
returns-in-Some-clause-value c =
    let ws = parts 32 c.args.text.now in
    sym (ap (λ b. cond b (row_in c.args.limits c.args.version ws) (Err Verb))
    (last_is_empty c.args.text.now c.in-Some._before_end.now c.in-Some.ensures))

pub returns-in-Ok-clause-value : goal.returns-in-Ok-clause-value
returns-in-Ok-clause-value c =
    row_taken c.args.limits (omega (arith, c.requires)) (omega arith) c.args.version (parts 32 c.args.text.now) c.in-Ok.line (search rules)

pub returns-in-Err-clause-value : goal.returns-in-Err-clause-value
returns-in-Err-clause-value c =
    row_refused c.args.limits (omega (arith, c.requires)) (omega arith) c.args.version (parts 32 c.args.text.now) c.in-Err.cause c.refusal.result (search rules) (search rules)
