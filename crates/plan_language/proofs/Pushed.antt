-- A plan with one line more.
use Rattle.std.proofs.Common.{◌≡◌, ℕ, ◌+◌, ◌≤◌, List, [], ◌∷◌, ◌++◌, arith}
use Rattle.std.specs.List.{AllByRecursion}
use Rattle.plan_language.specs.declared.line.Line.{Line}
use Rattle.plan_language.specs.declared.limits.Limits.{Limits}
use Rattle.plan_language.specs.Lines.{count, line_count, FitsVersion, IsLine, IsWithin, ArePlanLines}

pub count_pushed : (l : Limits) (lines : List Line) (line : Line)
    → count l (lines ++ line ∷ []) ≡ count l lines + line_count l line
count_pushed l [] line = omega arith
count_pushed l (a ∷ lines) line = let e = count_pushed l lines line in omega arith

all_pushed : (P : Line → Type 0) (lines : List Line) (line : Line) → AllByRecursion P lines → P line
    → AllByRecursion P (lines ++ line ∷ [])
all_pushed P [] line h l = (l, tt)
all_pushed P (a ∷ lines) line h l = (h.0, all_pushed P lines line h.1 l)

-- each line fits the version
pub fits_pushed : (v : ℕ) (lines : List Line) (line : Line) → AllByRecursion (FitsVersion v) lines → FitsVersion v line
    → AllByRecursion (FitsVersion v) (lines ++ line ∷ [])
fits_pushed v lines line h f = all_pushed (FitsVersion v) lines line h f

pub pushed_are_lines : (l : Limits) (lines : List Line) (line : Line) → ArePlanLines l lines → IsLine line
    → IsWithin l line → count l lines + line_count l line ≤ l.commands → ArePlanLines l (lines ++ line ∷ [])
pushed_are_lines l lines line h is w room = (
  all_pushed IsLine lines line h.0 is,
  (let e = count_pushed l lines line in omega arith),
  all_pushed (IsWithin l) lines line h.2 w,
)

pub ruleset pushed = (fits_pushed, pushed_are_lines)
