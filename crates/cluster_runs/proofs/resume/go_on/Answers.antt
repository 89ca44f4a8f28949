use Rattle.std.proofs.Common.{inl, inr, subst, subst₂}
use Rattle.std.specs.Prelude.{MatchOption}
use Rattle.cluster_runs.specs.Resuming.{IsNothingLeft, IsOpenCount}
use Rattle.cluster_runs.proofs.resume.go_on.Goals as goal

pub returns-in-Ok-Some : goal.returns-in-Ok-Some
returns-in-Ok-Some g c =
    let lines = c.in-Ok.lines in
    let left = subst (λ o. MatchOption o (IsNothingLeft c.new-attempt.result.batch lines)
    (λ p. IsOpenCount c.new-attempt.result.batch lines p.1.printed.items)) c.in-Ok-Some.field-0-is
    c.in-Ok-Some.ensures.left in
    inl (
      lines,
      c.in-Ok-Some.count.printed.items,
      c.in-Ok.ensures.lines,
      subst (λ b. IsOpenCount b lines c.in-Ok-Some.count.printed.items) c.new-attempt.ensures.batch left,
      c.run.ensures,
    )

pub returns-in-Ok-None : goal.returns-in-Ok-None
returns-in-Ok-None g c =
    let lines = c.in-Ok.lines in
    let left = subst (λ o. MatchOption o (IsNothingLeft c.new-attempt.result.batch lines)
    (λ p. IsOpenCount c.new-attempt.result.batch lines p.1.printed.items)) c.in-Ok-None.field-0-is
    c.in-Ok-None.ensures.left in
    inr (inl (
      (lines, c.in-Ok.ensures.lines, subst (λ b. IsNothingLeft b lines) c.new-attempt.ensures.batch left),
      c.show.ensures,
    ))
