-- How many commands the lines of a plan stand for.
use Rattle.std.proofs.Common.{◌≡◌, ℕ, ◌+◌, ◌<◌, List, ◌∷◌, length, drop, get_or, length-append, subst, sym, ap, ◌∙◌}
use Rattle.std.proofs.Common.{add-one}
use Rattle.std.proofs.Math.Seq.{drop-cons}
use Rattle.std.specs.List.{AllByRecursion}
use Rattle.plan_language.specs.declared.line.Line.{Line}
use Rattle.plan_language.specs.declared.limits.Limits.{Limits}
use Rattle.plan_language.specs.Lines.{count, line_count, line_commands, plan_commands, IsLine}

-- the lines from the i-th on are it and those after it
pub left_at : (lines : List Line) (i : ℕ) (line : Line) → i < length lines → line ≡ get_or lines i line
    → drop i lines ≡ line ∷ drop (i + 1) lines
left_at lines i line h e =
    drop-cons lines i line h ∙ ap (λ k. get_or lines i line ∷ drop k lines) (sym (add-one i))
    ∙ ap (λ x. x ∷ drop (i + 1) lines) (sym e)

pub all_left : (lines : List Line) (i : ℕ) (line : Line) → i < length lines → line ≡ get_or lines i line
    → AllByRecursion IsLine (drop i lines) → IsLine line × AllByRecursion IsLine (drop (i + 1) lines)
all_left lines i line h e a = subst (AllByRecursion IsLine) (left_at lines i line h e) a

pub length_left : (n i : ℕ) (lines : List Line) (line : Line) → i < length lines → line ≡ get_or lines i line
    → length (plan_commands n (drop i lines)) ≡ length (line_commands n line) + length (plan_commands n (drop (i + 1) lines))
length_left n i lines line h e =
    subst (λ xs. length (plan_commands n xs) ≡ length (line_commands n line) + length (plan_commands n (drop (i + 1) lines)))
    (sym (left_at lines i line h e)) (length-append (line_commands n line) (plan_commands n (drop (i + 1) lines)))

pub count_left : (l : Limits) (lines : List Line) (i : ℕ) (line : Line) → i < length lines → line ≡ get_or lines i line
    → count l (drop i lines) ≡ line_count l line + count l (drop (i + 1) lines)
count_left l lines i line h e = ap (count l) (left_at lines i line h e)

pub ruleset lines_left = (all_left, length_left, count_left)
