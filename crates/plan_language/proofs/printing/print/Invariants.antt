use Rattle.std.proofs.Common.{◌≡◌, ◌++◌, ◌∷◌, [], drop, codes}
use Rattle.plan_language.specs.Texts.{lines_text, plan_text}
use Rattle.plan_language.proofs.printing.print.Given as goal

-- what is printed, then the lines that are left and the end
abbrev pub invariant-loop-line : goal.invariant-loop-line
invariant-loop-line l =
    l.text.items ++ (lines_text (drop l.line-index l.line-items) ++ (codes "end" ++ 10 ∷ []))
    ≡ plan_text (record { version = l.plan.version; names = l.plan.names; lines = l.line-items })
