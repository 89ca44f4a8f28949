use Rattle.std.proofs.Common.{◌≡◌, drop, nat_eq}
use Rattle.std.specs.Cmp.Lexicographic.{pointwise}
use Rattle.plan_language.proofs.words.is_text.Given as goal

abbrev pub invariant-loop-place : goal.invariant-loop-place
invariant-loop-place l = pointwise nat_eq (drop l.place l.word) (drop l.place l.text) ≡ pointwise nat_eq l.word l.text
