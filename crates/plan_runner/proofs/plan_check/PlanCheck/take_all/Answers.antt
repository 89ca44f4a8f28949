use Rattle.std.proofs.Common.{◌+◌, ◌++◌, drop, ap, ◌∙◌, arith}
use Rattle.std.proofs.lemmas.Result.{err_from_is_err_and}
use Rattle.plan_language.specs.Limits.{few}
use Rattle.plan_language.specs.Lines.{plan_commands}
use Rattle.plan_language.proofs.Counting.{left_at, all_left, count_left}
use Rattle.plan_runner.proofs.Checked.{line_taken, line_refused, all_taken}
use Rattle.plan_runner.proofs.plan_check.PlanCheck.take_all.Goals as goal

pub returns-in_err-take_line : goal.returns-in_err-take_line
returns-in_err-take_line g c phases h =
    let p = err_from_is_err_and c.from_residual.result c.from_residual.ensures.1 in
    let left = left_at c.args.lines.now c.loop-line.line-index c.line-item.result c.loop-line-test.true c.line-item.is in
    rw (p.1, p.2) (line_refused c.args.rules.version c.args.rules.nodes phases c.args.lines.now (drop (c.loop-line.line-index + 1) c.args.lines.now) c.line-item.result (c.loop-line.invariant.2 phases h).0 c.loop-line.self c.take_line.new.self c.take_line.result
    c.in_err-take_line.field-0.0 c.take_line.ensures.takes c.in_err-take_line.was (c.loop-line.invariant.2 phases h).1
    ((c.loop-line.invariant.2 phases h).2 ∙ ap (λ xs. (c.loop-line.invariant.2 phases h).0 ++ plan_commands c.args.rules.nodes xs) left))

pub loop-line-preserved : goal.loop-line-preserved
loop-line-preserved g c =
    let lines = c.args.lines.now in
    let i = c.loop-line.line-index in
    let line = c.line-item.result in
    let left = left_at lines i line c.loop-line-test.true c.line-item.is in (
      (all_left lines i line c.loop-line-test.true c.line-item.is c.loop-line.invariant.0).1,
      (let rest = count_left few lines i line c.loop-line-test.true c.line-item.is in
          let more = c.in_ok-take_line.ensures.count in omega (arith, rest, more, c.loop-line.invariant.1)),
      λ phases h. line_taken c.args.rules.version c.args.rules.nodes phases lines (drop (i + 1) lines) line (c.loop-line.invariant.2 phases h).0
          c.loop-line.self c.take_line.new.self c.take_line.result _ c.take_line.ensures.takes c.in_ok-take_line.was (c.loop-line.invariant.2 phases h).1
          ((c.loop-line.invariant.2 phases h).2 ∙ ap (λ xs. (c.loop-line.invariant.2 phases h).0 ++ plan_commands c.args.rules.nodes xs) left),
    )

pub returns : goal.returns
returns g c phases h =
    all_taken c.args.rules.version c.args.rules.nodes phases c.args.lines.now c.loop-line.line-index c.loop-line.self c.loop-line-test.false (c.loop-line.invariant.2 phases h)
